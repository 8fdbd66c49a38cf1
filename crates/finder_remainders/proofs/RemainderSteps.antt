-- one spot, or one divisor, more
use Rattle.std.proofs.Common.{◌≡◌, ⊎_elim, inl, inr, ◌⊎◌, ℕ, zero, suc, ◌+◌, ◌<◌, ℤ, pos, ◌-ℤ◌, unsigned_abs, FitsSigned, w64, to_z, of_z, Bool, true, false, not, ◌||◌, ◌&&◌, ◌==◌, List, [], ◌∷◌, ◌++◌, length, get_or, take, refl, ap, ap₂, sym, subst, ◌∙◌, arith, below_more}
use Rattle.std.specs.Int.{◌∣◌}
use Rattle.std.specs.Prelude.{◌↔◌, IsTrue, All, Any}
use Rattle.std.proofs.lemmas.Int.{ints, to_z-of_z}
use Rattle.std.proofs.lemmas.Bool.{cases_Bool, false≢true}
use Rattle.std.proofs.lemmas.Bool.Decides.{eqb_tells}
use Rattle.std.proofs.lemmas.List.{get_or_append_left, get_or_at, length_push, take_more}
use Rattle.std.proofs.lemmas.List.Elements.{All-push}
use Rattle.std.proofs.lemmas.List.Quantifiers.{Any-push}
use Rattle.position_set.specs.declared.set.PositionSet.{PositionSet}
use Rattle.position_set.specs.Sets.{has}
use Rattle.price_trees.specs.Trees.{IsMultiple}
use Rattle.hold_choices.proofs.RemainderLemmas.{dvd-multiple, multiple-dvd, multiple-zero}
use Rattle.finder_remainders.specs.declared.spots.Spot.{Spot}
use Rattle.finder_remainders.specs.Remainders.{IsMetBy}

-- Numbers ----------------------------------------------------------------------------------------

pub zero-divides : (n : ℕ) → 0 ∣ n → n ≡ 0
zero-divides n divides =
    let multiple = dvd-multiple 0 (pos n) divides in
    let none = multiple-zero (pos n) multiple in
    omega (arith, ints, none)

-- how far two numbers of 64 bits lie apart
pub apart : (a b : ℤ) (n : ℕ) → FitsSigned w64 a → FitsSigned w64 b → n ≡ unsigned_abs (to_z w64 (of_z w64 a) -ℤ to_z w64 (of_z w64 b)) → n ≡ unsigned_abs (a -ℤ b)
apart a b n fits fits' is = is ∙ ap₂ (λ x y. unsigned_abs (x -ℤ y)) (to_z-of_z w64 a fits) (to_z-of_z w64 b fits')

pub tells-multiple : (d n : ℕ) (z : ℤ) (test : Bool) → n ≡ unsigned_abs z → (IsTrue test ↔ (d ∣ n)) → IsTrue test ↔ IsMultiple d z
tells-multiple d n z test size tells = (
  λ told. dvd-multiple d z (subst (λ m. d ∣ m) size (tells.0 told)),
  λ multiple. tells.1 (subst (λ m. d ∣ m) (sym size) (multiple-dvd d z multiple)),
)

pub not-told : (test : Bool) (P : Type 0) → (IsTrue test ↔ P) → IsTrue (not test) ↔ (P → ⊥)
not-told true P tells = (λ none. absurd (false≢true none), λ misses. absurd (misses (tells.0 refl)))
not-told false P tells = (λ _ holds. absurd (false≢true (tells.1 holds)), λ _. refl)

-- Of all, and of one ------------------------------------------------------------------------------

-- what holds of each of a list and of one more holds of all, and the other way round
pub all-more : {X : Type 0} (P : X → Type 0) (front all : List X) (x : X) (old new : Type 0) → all ≡ front ++ x ∷ [] → (old ↔ All P front) → (new ↔ (P x × old)) → new ↔ All P all
all-more P front all x old new is so_far more = (
  λ have. let both = more.0 have in subst (All P) (sym is) (All-push P front x (so_far.0 both.1) both.0),
  λ each.
      let every : All P (front ++ x ∷ []) = subst (All P) is each in
      let here : P x = subst P (get_or_at front x [] x (length front) refl) (every (length front) x (omega (arith, length_push front x))) in
      let before : All P front = λ k d within. subst P (get_or_append_left front (x ∷ []) d k within) (every k d (omega (arith, within, length_push front x))) in
      more.1 (here, so_far.1 before),
)

-- what holds of each number below one, and of that
pub below-both : (P : ℕ → Type 0) (i : ℕ) (old new : Type 0) → (old ↔ ((k : ℕ) → k < i → P k)) → (new ↔ (P i × old)) → new ↔ ((k : ℕ) → k < i + 1 → P k)
below-both P i old new so_far more = (
  λ have. let both = more.0 have in below_more P i (so_far.0 both.1) both.0,
  λ each. more.1 (each i (omega arith), so_far.1 (λ k within. each k (omega (arith, within)))),
)

pub one-more : {X : Type 0} (xs : List X) (i : ℕ) (x : X) → i < length xs → x ≡ get_or xs i x → take (i + 1) xs ≡ take i xs ++ x ∷ []
one-more xs i x within is = take_more xs i x within ∙ ap (λ y. take i xs ++ y ∷ []) (sym is)

any-before : {X : Type 0} (P : X → Type 0) (xs : List X) (y : X) → Any P xs → Any P (xs ++ y ∷ [])
any-before P xs y found = (found.0, found.1, omega (arith, found.2, length_push xs y), get_or_append_left xs (y ∷ []) found.1 found.0 found.2 ∙ found.3, found.4)

any-last : {X : Type 0} (P : X → Type 0) (xs : List X) (y : X) (k : ℕ) (x : X) → k < length (xs ++ y ∷ []) → get_or (xs ++ y ∷ []) k x ≡ x → P x → Any P xs ⊎ P y
any-last P [] y zero x within is holds = inr (subst P (sym is) holds)
any-last P [] y (suc k) x within is holds = absurd (omega (arith, within))
any-last P (z ∷ xs) y zero x within is holds = inl (0, x, omega arith, is, holds)
any-last P (z ∷ xs) y (suc k) x within is holds = ⊎_elim
    (λ (found : Any P xs). inl (suc found.0, found.1, omega (arith, found.2), found.3, found.4))
    (λ (here : P y). inr here)
    (any-last P xs y k x (omega (arith, within)) is holds)

-- Sets of positions -------------------------------------------------------------------------------

-- a set that has the positions of spots of which a fact holds, and one spot more
pub met-more : (holds : ℤ → Type 0) (front all : List Spot) (s : Spot) (set next : PositionSet) (passes : Bool) → all ≡ front ++ s ∷ [] → (IsTrue passes ↔ holds s.index)
    → ((q : ℕ) → has next q ≡ (has set q || (passes && (q == s.position)))) → ((q : ℕ) → IsTrue (has set q) ↔ IsMetBy holds front q)
    → (q : ℕ) → IsTrue (has next q) ↔ IsMetBy holds all q
met-more holds front all s set next passes is tells more so_far q =
    let P : Spot → Type 0 = λ x. (x.position ≡ q) × holds x.index in (
      λ have. subst (Any P) (sym is) (⊎_elim
          (λ (one : has set q ≡ true). any-before P front s ((so_far q).0 one))
          (λ (none : has set q ≡ false). Any-push P front s (last-met (rw none at (sym (more q) ∙ have))))
          (cases_Bool (has set q))),
      λ met. more q ∙ ⊎_elim
          (λ (found : Any P front). rw ((so_far q).1 found) refl)
          (λ (here : P s). or-true (has set q) (rw (tells.1 here.1, equal q s.position (sym here.0)) refl))
          (let some : Any P (front ++ s ∷ []) = subst (Any P) is met in any-last P front s some.0 some.1 some.2 some.3 some.4),
    )
  where
    last-met : (passes && (q == s.position)) ≡ true → (s.position ≡ q) × holds s.index
    last-met both = ⊎_elim
        (λ (on : passes ≡ true). ⊎_elim
        (λ same. (sym same.1, tells.0 on))
        (λ apart. absurd (false≢true (sym apart.0 ∙ (rw on at both))))
        (eqb_tells q s.position))
        (λ (off : passes ≡ false). absurd (false≢true (rw off at both)))
        (cases_Bool passes)

    equal : (a b : ℕ) → a ≡ b → (a == b) ≡ true
    equal a b is = ⊎_elim (λ same. same.0) (λ apart. absurd (apart.1 is)) (eqb_tells a b)

    or-true : (a : Bool) {b : Bool} → b ≡ true → (a || b) ≡ true
    or-true true on = refl
    or-true false on = on
