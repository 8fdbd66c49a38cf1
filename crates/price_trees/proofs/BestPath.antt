-- the theorem: a path that trees show to be the best is the best, and a tree over all placements shows that there is none
use Rattle.std.proofs.Common.{◌≡◌, ◌⊎◌, ⊎_elim, inl, inr, ℕ, zero, suc, ◌+◌, ◌-◌, ◌<◌, ◌≤◌, ℤ, pos, ◌+ℤ◌, ◌-ℤ◌, true, false, ◌==◌, List, [], ◌∷◌, ◌++◌, map, zip, take, length, refl, ap₂, sym, ◌∙◌, subst, arith, Ordering, Less, Equal, Greater, is_gt, nat_cmp}
use Rattle.std.specs.Prelude.{◌≤ℤ◌, slice_index}
use Rattle.std.specs.List.{AllByRecursion, filter, range_with_len}
use Rattle.std.specs.Ordering.{ordering_then}
use Rattle.std.specs.Cmp.Lexicographic.{slice_cmp}
use Rattle.std.proofs.lemmas.Bool.{cases_Bool}
use Rattle.std.proofs.lemmas.Bool.Decides.{eqb_tells, nat_tests}
use Rattle.std.proofs.lemmas.Int.{ints, clamps}
use Rattle.std.proofs.lemmas.List.Elements.{recursion_from_All}
use Rattle.hold_parts.specs.declared.parts.Item.{Item}
use Rattle.hold_parts.specs.Limits.{is_listed}
use Rattle.hold_limits.specs.BranchOrder.{ordered}
use Rattle.hold_limits.specs.Enumeration.{is_accepted}
use Rattle.hold_limits.specs.Faults.{IsLawful}
use Rattle.hold_limits.specs.Layout.{Layout}
use Rattle.hold_limits.specs.Placement.{placed, IsAccepted, hold_index, IsAdmissible, distance_to, distance, key, key_cmp, IsAtMost, IsBest}
use Rattle.hold_limits.specs.Problem.{Problem}
use Rattle.hold_limits.proofs.BranchOrderLemmas.{length-ordered}
use Rattle.hold_limits.proofs.EnumerationLemmas.{is_accepted-Decides, best_exists}
use Rattle.hold_limits.proofs.ExchangeLemmas.{best-rises}
use Rattle.hold_limits.proofs.KeyOrder.{IsAtMost-trans}
use Rattle.hold_limits.proofs.SoundLemmas.{accepted_within}
use Rattle.hold_reach.proofs.ViableLemmas.{band-in_order}
use Rattle.price_trees.specs.Prices.{IsAmong, Choice}
use Rattle.price_trees.specs.Narrowing.{IsRegular, IsIn, window, ticks_within, full, fixed}
use Rattle.price_trees.specs.Trees.{Refuted, IsShownBest}
use Rattle.price_trees.proofs.NarrowingLemmas.{listed-filter}
use Rattle.price_trees.proofs.TreeLaw.{tree-law}

-- Choices of prefixes ---------------------------------------------------------------------------

pub listed-range : (a n q : ℕ) → a ≤ q → q < a + n → is_listed (range_with_len a n) q ≡ true
listed-range a zero q from below = absurd (omega arith)
listed-range a (suc n) q from below = ⊎_elim
    (λ same. rw same.0 refl)
    (λ other. rw other.0 (let differ = other.1 in listed-range (a + 1) n q (omega arith) (omega arith)))
    (eqb_tells a q)

accepted-among : (hold : Layout) (items : List Item) (path : List ℕ) → length path ≡ length items → AllByRecursion (IsAccepted hold) (zip items path)
    → IsAmong path (map (λ (item : Item). filter (λ q. is_accepted hold (item, q)) (range_with_len 0 (length hold.positions))) items)
accepted-among hold [] [] same accepted = tt
accepted-among hold [] (q ∷ path) same accepted = absurd (omega arith)
accepted-among hold (item ∷ items) [] same accepted = absurd (omega arith)
accepted-among hold (item ∷ items) (q ∷ path) same accepted = (
  listed-filter (λ q. is_accepted hold (item, q)) (range_with_len 0 (length hold.positions)) q
      (listed-range 0 (length hold.positions) q (omega arith) (omega (arith, accepted_within hold (item, q) accepted.0)))
      ((is_accepted-Decides hold (item, q)).1 accepted.0),
  accepted-among hold items path (omega arith) accepted.1,
)

pub full-among : (t : Problem) (path : List ℕ) → IsAdmissible t path → IsAmong path (full t)
full-among t path admissible = accepted-among t.hold (ordered t.items) path (admissible.complete ∙ sym (length-ordered t.items)) (recursion_from_All (IsAccepted t.hold) (placed t path) admissible.sound.accepted)

fixed-among : (front rest : List ℕ) (choice : Choice) → IsAmong (front ++ rest) choice → IsAmong (front ++ rest) (fixed front choice)
fixed-among [] rest choice among = among
fixed-among (q ∷ front) rest [] among = absurd among
fixed-among (q ∷ front) rest (set ∷ choice) among = (listed-filter (λ p. q == p) set q among.0 (itself q), fixed-among front rest choice among.1)
  where
    itself : (q : ℕ) → (q == q) ≡ true
    itself q = grind (arith, nat_tests)

-- Ticks -----------------------------------------------------------------------------------------

distance-within : (low high index : ℤ) (d : ℕ) → low ≤ℤ high → distance_to low high index ≤ d → ((low -ℤ pos d) ≤ℤ index) × (index ≤ℤ (high +ℤ pos d))
distance-within low high index d band near = grind (arith, ints)

pub near-in : (t : Problem) (path : List ℕ) (d : ℕ) → t.ideal_low ≤ℤ t.ideal_high → IsAdmissible t path → distance t path ≤ d → IsIn (ticks_within t d) (hold_index t path)
near-in t path d band admissible near =
    let within = distance-within t.ideal_low t.ideal_high (t.base +ℤ hold_index t path) d band near in
    record {
      above = omega (arith, ints, clamps, within.0, admissible.low);
      below = omega (arith, ints, clamps, within.1, admissible.high);
    }

-- Keys ------------------------------------------------------------------------------------------

then-greater : (o p : Ordering) → is_gt (ordering_then o p) ≡ true → (o ≡ Greater) ⊎ ((o ≡ Equal) × (is_gt p ≡ true))
then-greater Less p greater = absurd (cc)
then-greater Equal p greater = inr (refl, greater)
then-greater Greater p greater = inl refl

cmp-greater : (m n : ℕ) → nat_cmp m n ≡ Greater → n < m
cmp-greater m n is = grind (arith, nat_tests)

cmp-equal : (m n : ℕ) → nat_cmp m n ≡ Equal → m ≡ n
cmp-equal m n is = grind (arith, nat_tests)

-- where one path precedes another of the same length, they part at a smaller number
record Parts (path other : List ℕ) : Type 0 where
  at : ℕ
  number : ℕ
  rest : List ℕ
  within : at < length path
  smaller : number < slice_index path at
  is : other ≡ (take at path ++ number ∷ []) ++ rest

parts : (path other : List ℕ) → length path ≡ length other → is_gt (slice_cmp nat_cmp path other) ≡ true → Parts path other
parts [] [] same greater = absurd (cc)
parts [] (p ∷ other) same greater = absurd (omega arith)
parts (q ∷ path) [] same greater = absurd (omega arith)
parts (q ∷ path) (p ∷ other) same greater = ⊎_elim
    (λ (first : nat_cmp q p ≡ Greater). record { at = 0; number = p; rest = other; within = omega arith; smaller = cmp-greater q p first; is = refl })
    (λ later.
    let below = parts path other (omega arith) later.1 in
    record {
      at = suc below.at;
      number = below.number;
      rest = below.rest;
      within = omega (arith, below.within);
      smaller = below.smaller;
      is = ap₂ (λ x xs. x ∷ xs) (sym (cmp-equal q p later.0)) below.is;
    })
    (then-greater (nat_cmp q p) (slice_cmp nat_cmp path other) greater)

-- The theorem -----------------------------------------------------------------------------------

regular : (t : Problem) (path : List ℕ) → IsBest t path → IsRegular t path
regular t path best = record { sound = best.admissible.sound; rising = best-rises t path best; lateral = best.admissible.lateral }

-- where an admissible path would be in what is refuted, so would the best one
pub none-admissible : (t : Problem) → Refuted t (window t) (full t) → (path : List ℕ) → IsAdmissible t path → ⊥
none-admissible t any path admissible =
    let best = best_exists t path admissible in
    tree-law t (window t) (full t) best.0 any (regular t best.0 best.1) (full-among t best.0 best.1.admissible) record { above = best.1.admissible.low; below = best.1.admissible.high }

pub shown-is-best : (t : Problem) (path : List ℕ) → IsLawful t → IsShownBest t path → IsBest t path
shown-is-best t path lawful shown =
    let best = best_exists t path shown.admissible in
    record {
      admissible = shown.admissible;
      least = λ other admissible. IsAtMost-trans (key t path) (key t best.0) (key t other) (at-most best.0 best.1) (best.1.least other admissible);
    }
  where
    band : t.ideal_low ≤ℤ t.ideal_high
    band = band-in_order t lawful

    nearer : (best : List ℕ) → IsBest t best → distance t best < distance t path → ⊥
    nearer best is less =
        let refuted = shown.nearer (omega arith) in
        tree-law t _ (full t) best refuted (regular t best is) (full-among t best is.admissible) (near-in t best (distance t path - 1) band is.admissible (omega arith))

    sibling : (best : List ℕ) → IsBest t best → distance t path ≡ distance t best → Parts path best → ⊥
    sibling best is same part =
        let refuted = shown.siblings part.at part.number part.within part.smaller in
        let front : List ℕ = take part.at path ++ part.number ∷ [] in
        let among = subst (λ whole. IsAmong whole (fixed front (full t))) (sym part.is) (fixed-among front part.rest (full t) (subst (λ whole. IsAmong whole (full t)) part.is (full-among t best is.admissible))) in
        tree-law t _ _ best refuted (regular t best is) among (near-in t best (distance t path) band is.admissible (omega (arith, same)))

    at-most : (best : List ℕ) → IsBest t best → IsAtMost (key t path) (key t best)
    at-most best is = ⊎_elim
        (λ (greater : is_gt (key_cmp (key t path) (key t best)) ≡ true). absurd (⊎_elim
        (λ (further : nat_cmp (distance t path) (distance t best) ≡ Greater). nearer best is (cmp-greater _ _ further))
        (λ same. sibling best is (cmp-equal _ _ same.0) (parts path best (shown.admissible.complete ∙ sym is.admissible.complete) same.1))
        (then-greater (nat_cmp (distance t path) (distance t best)) (slice_cmp nat_cmp path best) greater)))
        (λ (not_greater : is_gt (key_cmp (key t path) (key t best)) ≡ false). not_greater)
        (cases_Bool (is_gt (key_cmp (key t path) (key t best))))
