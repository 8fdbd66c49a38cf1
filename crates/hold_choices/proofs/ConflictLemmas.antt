-- what containers take from one another
use Rattle.std.proofs.Common.{◌≡◌, ⊎_elim, ℕ, ◌<◌, ◌≤◌, Bool, true, false, not, ◌&&◌, ◌||◌, ◌==◌, nat_lt, nat_le, List, [], ◌∷◌, length, refl, ap, sym, ◌∙◌, arith, get_or, subst}
use Rattle.std.proofs.lemmas.Bool.{cases_Bool, false≢true}
use Rattle.std.proofs.lemmas.Bool.Decides.{nat_tests}
use Rattle.std.specs.List.{list_any}
use Rattle.hold_limits.specs.Faults.{IsLawfulHold}
use Rattle.hold_limits.specs.Layout.{Layout}
use Rattle.hold_limits.proofs.LawfulBounds.{hold-bounds}
use Rattle.position_set.specs.declared.set.PositionSet.{PositionSet}
use Rattle.position_set.specs.Sets.{has, members}
use Rattle.price_trees.specs.Narrowing.{leaves}
use Rattle.hold_choices.proofs.NumberLemmas.{members-any, members-no}

pub twice : (b : Bool) → not (not b) ≡ b
twice true = refl
twice false = refl

-- an excluding pair more, in either order
pub pair-more : (s a x y z w : Bool) → (((s || a) || (x && y)) || (z && w)) ≡ (s || (a || ((x && y) || (w && z))))
pair-more true a x y z w = refl
pair-more false true x y z w = refl
pair-more false false x y z w = ap (λ b. (x && y) || b) (and-swap z w)
  where
    and-swap : (a b : Bool) → (a && b) ≡ (b && a)
    and-swap true true = refl
    and-swap true false = refl
    and-swap false true = refl
    and-swap false false = refl

pub or-false : (b : Bool) → b ≡ (b || false)
or-false true = refl
or-false false = refl

-- the positions of an excluding pair fit a word
pub pair-known : (hold : Layout) (pairs : List (ℕ × ℕ)) (k : ℕ) → pairs ≡ hold.excludes → IsLawfulHold hold → k < length pairs → ((get_or pairs k (0, 0)).0 < 64) × ((get_or pairs k (0, 0)).1 < 64)
pair-known hold pairs k same lawful within =
    let bounds = hold-bounds hold lawful in
    subst (λ (xs : List (ℕ × ℕ)). k < length xs → ((get_or xs k (0, 0)).0 < 64) × ((get_or xs k (0, 0)).1 < 64)) (sym same)
    (λ inside. let known = bounds.excludes k (0, 0) inside in (omega (arith, known.0, bounds.positions), omega (arith, known.1, bounds.positions)))
    within

-- a container that may have none or several positions leaves all
pub leaves-unless_one : (hold : Layout) (qs : List ℕ) (p : ℕ) → (length qs ≡ 1 → ⊥) → leaves hold qs p ≡ true
leaves-unless_one hold [] p several = refl
leaves-unless_one hold (q ∷ []) p several = absurd (several refl)
leaves-unless_one hold (q ∷ r ∷ qs) p several = refl

-- the numbers up to the least are above none
pub above-least : (set : PositionSet) (least p : ℕ) → least < 64 → has set least ≡ true → ((q : ℕ) → has set q ≡ true → least ≤ q) → nat_le p least ≡ not (list_any (λ q. nat_lt q p) (members set))
above-least set least p within in_set low = ⊎_elim
    (λ (above : nat_lt least p ≡ true).
    let some = members-any set (λ q. nat_lt q p) least within in_set above in
    let past : nat_le p least ≡ false = grind (arith, nat_tests) in
    past ∙ sym (ap not some))
    (λ (not_above : nat_lt least p ≡ false).
    let none = members-no set (λ q. nat_lt q p) (λ q is. let from = low q is in grind (arith, nat_tests)) in
    let up_to : nat_le p least ≡ true = grind (arith, nat_tests) in
    up_to ∙ sym (ap not none))
    (cases_Bool (nat_lt least p))

-- those from the greatest on are below none
pub below-greatest : (set : PositionSet) (greatest p : ℕ) → greatest < 64 → has set greatest ≡ true → ((q : ℕ) → has set q ≡ true → q ≤ greatest) → nat_le greatest p ≡ not (list_any (λ q. nat_lt p q) (members set))
below-greatest set greatest p within in_set high = ⊎_elim
    (λ (below : nat_lt p greatest ≡ true).
    let some = members-any set (λ q. nat_lt p q) greatest within in_set below in
    let past : nat_le greatest p ≡ false = grind (arith, nat_tests) in
    past ∙ sym (ap not some))
    (λ (not_below : nat_lt p greatest ≡ false).
    let none = members-no set (λ q. nat_lt p q) (λ q is. let to = high q is in grind (arith, nat_tests)) in
    let from : nat_le greatest p ≡ true = grind (arith, nat_tests) in
    from ∙ sym (ap not none))
    (cases_Bool (nat_lt p greatest))

-- a set without numbers has none above or below
pub none-passes : (set : PositionSet) (test : ℕ → Bool) → ((q : ℕ) → has set q ≡ false) → true ≡ not (list_any test (members set))
none-passes set test none = sym (ap not (members-no set test (λ q is. absurd (false≢true (sym (none q) ∙ is)))))

-- numbers that are not up to one, and that one, are those from it on
pub from-on : (g p : ℕ) → p < 64 → ((nat_le p 63 && not (nat_le p g)) || (p == g)) ≡ nat_le g p
from-on g p within = grind (arith, nat_tests)
