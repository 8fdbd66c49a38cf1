-- where there is a way there is a cheapest and a dearest one, so that each prefix has a tight reach or no way
use Rattle.std.proofs.Common.{refl, ◌≡◌, ◌≢◌, ◌⊎◌, inl, inr, ⊎_elim, ℕ, zero, suc, ◌+◌, ◌<◌, ℤ, pos, ◌+ℤ◌, ◌-ℤ◌, ◌≤ℤ◌, true, false, List, [], ◌∷◌, length, Option, Some, None, sym, ◌∙◌, subst, arith}
use Rattle.std.proofs.lemmas.Bool.{cases_Bool, cases_eq, false≢true}
use Rattle.std.proofs.lemmas.Int.{ints}
use Rattle.std.proofs.lemmas.List.Elements.{All-head, All-tail}
use Rattle.std.proofs.lemmas.List.Kept.{AllPairs-cons}
use Rattle.std.specs.Prelude.{All, int_le}
use Rattle.std.specs.List.{AllZip}
use Rattle.hold_limits.specs.Problem.{Problem}
use Rattle.hold_limits.specs.Placement.{placed_moment, hold_index}
use Rattle.hold_limits.proofs.EnumerationLemmas.{int_le-Decides}
use Rattle.hold_limits.proofs.SoundLemmas.{accepted_within}
use Rattle.hold_parts.specs.declared.parts.Item.{Item}
use Rattle.hold_reach.specs.Reach.{remaining, IsOpen, is_open}
use Rattle.hold_reach.proofs.ChoiceLemmas.{is_open-Decides}
use Rattle.assignment.specs.Ways.{IsWay, cost_of}
use Rattle.assignment_prices.specs.TightReach.{IsTightReach}
use Rattle.assignment_prices.proofs.WayLemmas.{AllZip-weaker, all-second}

or_greater : (x y : ℤ) → (x ≤ℤ y) ⊎ (y ≤ℤ x)
or_greater x y = ⊎_elim
    (λ (is : int_le x y ≡ true). inl ((int_le-Decides x y).0 is))
    (λ (not : int_le x y ≡ false). inr (from_not x y not))
    (cases_Bool (int_le x y))
  where
    from_not : (x y : ℤ) → int_le x y ≡ false → y ≤ℤ x
    from_not x y not = grind (arith, ints)

-- where the first candidate stands on q, the others may stand elsewhere
Beside : {A : Type 0} → (A → ℕ → Type 0) → ℕ → A → ℕ → Type 0
Beside May q a p = May a p × (q ≢ p)

way-cons : {A : Type 0} (May : A → ℕ → Type 0) (a : A) (rest : List A) (q : ℕ) (way : List ℕ) → May a q → IsWay (Beside May q) rest way → IsWay May (a ∷ rest) (q ∷ way)
unfolding Beside
way-cons May a rest q way here is = record {
  each = (here, AllZip-weaker (Beside May q) May (λ b p both. both.0) rest way is.each);
  apart = AllPairs-cons (λ p r. p ≢ r) q way (all-second (Beside May q) (λ p. q ≢ p) (λ b p both. both.1) rest way is.each) is.apart;
}

way-rest : {A : Type 0} (May : A → ℕ → Type 0) (a : A) (rest : List A) (q : ℕ) (way : List ℕ) → IsWay May (a ∷ rest) (q ∷ way) → IsWay (Beside May q) rest way
unfolding Beside
way-rest May a rest q way is = record {
  each = beside rest way (λ k d within. is.apart zero (suc k) d (omega arith) (omega arith)) is.each.1;
  apart = λ i j d before within. is.apart (suc i) (suc j) d (omega arith) (omega arith);
}
  where
    beside : (xs : _) (ps : List ℕ) → All (λ p. q ≢ p) ps → AllZip May xs ps → AllZip (Beside May q) xs ps
    beside [] [] other each = tt
    beside [] (p ∷ ps) other each = absurd each
    beside (a ∷ xs) [] other each = absurd each
    beside (a ∷ xs) (p ∷ ps) other each = ((each.0, All-head (λ p. q ≢ p) p ps other), beside xs ps (All-tail (λ p. q ≢ p) p ps other) each.1)

-- of the ways that pass, one costs no more than any other, or none passes
Least : {A : Type 0} → (A → ℕ → Type 0) → (A × ℕ → ℤ) → List A → (List ℕ → Type 0) → Type 0
Least May cost candidates Passes =
    ((way : List ℕ) × IsWay May candidates way × ((other : List ℕ) → Passes other → IsWay May candidates other → cost_of cost candidates way ≤ℤ cost_of cost candidates other))
    ⊎ ((way : List ℕ) → Passes way → IsWay May candidates way → ⊥)

-- of the ways that pass one test or the other
either : {A : Type 0} (May : A → ℕ → Type 0) (cost : A × ℕ → ℤ) (candidates : List A) (First Second Either : List ℕ → Type 0) → ((way : List ℕ) → Either way → First way ⊎ Second way)
    → Least May cost candidates First → Least May cost candidates Second → Least May cost candidates Either
unfolding Least
either May cost candidates First Second Either split first second = ⊎_elim
    (λ one. ⊎_elim
    (λ two. ⊎_elim
    (λ less. inl (one.0, one.1, λ other passes is. ⊎_elim (λ p. one.2 other p is) (λ p. further _ _ _ less (two.2 other p is)) (split other passes)))
    (λ more. inl (two.0, two.1, λ other passes is. ⊎_elim (λ p. further _ _ _ more (one.2 other p is)) (λ p. two.2 other p is) (split other passes)))
    (or_greater (cost_of cost candidates one.0) (cost_of cost candidates two.0)))
    (λ none. inl (one.0, one.1, λ other passes is. ⊎_elim (λ p. one.2 other p is) (λ p. absurd (none other p is)) (split other passes)))
    second)
    (λ none. ⊎_elim
    (λ two. inl (two.0, two.1, λ other passes is. ⊎_elim (λ p. absurd (none other p is)) (λ p. two.2 other p is) (split other passes)))
    (λ also. inr (λ other passes is. ⊎_elim (λ p. none other p is) (λ p. also other p is) (split other passes)))
    second)
    first
  where
    further : (x y z : ℤ) → x ≤ℤ y → y ≤ℤ z → x ≤ℤ z
    further x y z one two = omega (arith, ints, one, two)

-- every way passes
Any-way : List ℕ → Type 0
Any-way way = Unit {0}

-- the first candidate stands on the position
Begins : ℕ → List ℕ → Type 0
Begins q way = (rest : List ℕ) × (way ≡ q ∷ rest)

-- .. on one of the first n
BeginsBelow : ℕ → List ℕ → Type 0
BeginsBelow n way = (q : ℕ) × (q < n) × Begins q way

begins-next : (n : ℕ) (way : List ℕ) → BeginsBelow (n + 1) way → BeginsBelow n way ⊎ Begins n way
unfolding BeginsBelow
begins-next n way given = ⊎_elim
    (λ (is : given.0 ≡ n). inr (subst (λ q. Begins q way) is given.2))
    (λ (other : given.0 ≡ n → ⊥). inl (given.0, omega (arith, given.1, other), given.2))
    (cases_eq given.0 n)

-- the cheapest of the ways that begin with q, by the cheapest of what can stand beside it
begun : {A : Type 0} (May : A → ℕ → Type 0) (cost : A × ℕ → ℤ) (a : A) (rest : List A) (q : ℕ) → May a q → Least (Beside May q) cost rest Any-way → Least May cost (a ∷ rest) (Begins q)
unfolding Least Begins Any-way
begun May cost a rest q here found = ⊎_elim
    (λ one. inl (
      q ∷ one.0,
      way-cons May a rest q one.0 here one.1,
      λ other begins is.
          let beside = way-rest May a rest q begins.0 (subst (IsWay May (a ∷ rest)) begins.1 is) in
          subst (λ way. cost_of cost (a ∷ rest) (q ∷ one.0) ≤ℤ cost_of cost (a ∷ rest) way) (sym begins.1) (more (cost (a, q)) _ _ (one.2 begins.0 tt beside)),
    ))
    (λ none. inr (λ other begins is. none begins.0 tt (way-rest May a rest q begins.0 (subst (IsWay May (a ∷ rest)) begins.1 is))))
    found
  where
    more : (x y z : ℤ) → y ≤ℤ z → (x +ℤ y) ≤ℤ (x +ℤ z)
    more x y z less = omega (arith, ints, less)

not-begun : {A : Type 0} (May : A → ℕ → Type 0) (cost : A × ℕ → ℤ) (a : A) (rest : List A) (q : ℕ) → (May a q → ⊥) → Least May cost (a ∷ rest) (Begins q)
unfolding Least Begins
not-begun May cost a rest q not = inr (λ other begins is. not ((subst (IsWay May (a ∷ rest)) begins.1 is).each.0))

cheapest-below : {A : Type 0} (May : A → ℕ → Type 0) (cost : A × ℕ → ℤ) (a : A) (rest : List A) → ((q : ℕ) → May a q ⊎ (May a q → ⊥)) → ((q : ℕ) → Least (Beside May q) cost rest Any-way)
    → (n : ℕ) → Least May cost (a ∷ rest) (BeginsBelow n)
unfolding Least BeginsBelow Any-way
cheapest-below May cost a rest decide each zero = inr (λ way passes is. absurd (omega (arith, passes.1)))
cheapest-below May cost a rest decide each (suc n) =
    let one : n + 1 ≡ suc n = omega arith in
    subst (λ m. Least May cost (a ∷ rest) (BeginsBelow m)) one
    (either May cost (a ∷ rest) (BeginsBelow n) (Begins n) (BeginsBelow (n + 1)) (begins-next n)
    (cheapest-below May cost a rest decide each n)
    (⊎_elim (λ here. begun May cost a rest n here (each n)) (λ not. not-begun May cost a rest n not) (decide n)))

-- where what a candidate may have can be told, and is below a number, there is a cheapest way or none
cheapest-found : {A : Type 0} (May : A → ℕ → Type 0) (cost : A × ℕ → ℤ) (count : ℕ) (candidates : List A) → ((a : A) (q : ℕ) → May a q ⊎ (May a q → ⊥)) → ((a : A) (q : ℕ) → May a q → q < count)
    → Least May cost candidates Any-way
unfolding Least BeginsBelow Begins Beside Any-way
cheapest-found {A} May cost count [] decide known =
    inl ([], record { each = tt; apart = λ i j d before within. absurd (omega arith) }, λ other passes is. omega (arith, ints))
cheapest-found {A} May cost count (a ∷ rest) decide known =
    whole (cheapest-below May cost a rest (decide a)
    (λ q. cheapest-found (Beside May q) cost count rest (λ b p. beside q b p) (λ b p both. known b p both.0))
    count)
  where
    beside : (q : ℕ) (b : A) (p : ℕ) → Beside May q b p ⊎ (Beside May q b p → ⊥)
    beside q b p = ⊎_elim
        (λ (here : May b p). ⊎_elim
        (λ (same : q ≡ p). inr (λ both. both.1 same))
        (λ (other : q ≡ p → ⊥). inl (here, other))
        (cases_eq q p))
        (λ (not : May b p → ⊥). inr (λ both. not both.0))
        (decide b p)

    below : (way : List ℕ) → IsWay May (a ∷ rest) way → BeginsBelow count way
    below [] is = absurd is.each
    below (q ∷ others) is = (q, known a q is.each.0, (others, refl))

    whole : Least May cost (a ∷ rest) (BeginsBelow count) → Least May cost (a ∷ rest) Any-way
    whole found = ⊎_elim
        (λ one. inl (one.0, one.1, λ other passes is. one.2 other (below other is) is))
        (λ none. inr (λ other passes is. none other (below other is) is))
        found

-- The tight reach -------------------------------------------------------------------------------

cost_of-negated : {A : Type 0} (cost : A × ℕ → ℤ) (candidates : List A) (way : List ℕ) → cost_of (λ p. pos 0 -ℤ cost p) candidates way ≡ pos 0 -ℤ cost_of cost candidates way
cost_of-negated cost [] way = refl
cost_of-negated cost (a ∷ candidates) [] = refl
cost_of-negated cost (a ∷ candidates) (q ∷ way) = omega (arith, ints, cost_of-negated cost candidates way)

open-decided : (t : Problem) (prefix : List ℕ) (item : Item) (q : ℕ) → IsOpen t prefix item q ⊎ (IsOpen t prefix item q → ⊥)
open-decided t prefix item q = ⊎_elim
    (λ (is : is_open t prefix item q ≡ true). inl ((is_open-Decides t prefix item q).0 is))
    (λ (not : is_open t prefix item q ≡ false). inr (λ given. false≢true (sym not ∙ (is_open-Decides t prefix item q).1 given)))
    (cases_Bool (is_open t prefix item q))

found : (t : Problem) (prefix : List ℕ) (cost : Item × ℕ → ℤ) → Least (IsOpen t prefix) cost (remaining t prefix) Any-way
found t prefix cost = cheapest-found (IsOpen t prefix) cost (length t.hold.positions) (remaining t prefix) (open-decided t prefix)
    (λ item q given. accepted_within t.hold (item, q) given.free.accepted)

-- each prefix has a tight reach, or none because it has no way
pub tight-exists : (t : Problem) (prefix : List ℕ) → (reached : Option (ℤ × ℤ)) × IsTightReach t prefix reached
unfolding Least Any-way
tight-exists t prefix = ⊎_elim
    (λ low. ⊎_elim
    (λ high. (
      Some (hold_index t prefix +ℤ cost_of cost items low.0, hold_index t prefix +ℤ cost_of cost items high.0),
      record {
        least = (low.0, low.1, refl);
        greatest = (high.0, high.1, refl);
        between = λ index given. (
          omega (arith, ints, given.2, low.2 given.0 tt given.1),
          omega (arith, ints, given.2, high.2 given.0 tt given.1, cost_of-negated cost items high.0, cost_of-negated cost items given.0),
        );
      },
    ))
    (λ none. absurd (none low.0 tt low.1))
    (found t prefix (λ p. pos 0 -ℤ cost p)))
    (λ none. (None, λ index given. none given.0 tt given.1))
    (found t prefix cost)
  where
    cost : Item × ℕ → ℤ
    cost = placed_moment t.hold

    items : List Item
    items = remaining t prefix
