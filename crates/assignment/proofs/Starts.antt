-- prices below all costs, and no candidate on a position
use Rattle.std.proofs.Common.{◌≡◌, ⊎_elim, ℕ, zero, suc, ◌<◌, ◌≤◌, List, [], length, replicate, None, refl, ap, arith}
use Rattle.std.specs.Prelude.{ℤ, pos, ◌+ℤ◌, All}
use Rattle.std.proofs.lemmas.Int.{ints}
use Rattle.std.proofs.lemmas.Bool.{cases_lt}
use Rattle.std.proofs.lemmas.List.{get_or_past}
use Rattle.assignment.specs.declared.costs.CostTable.{CostTable}
use Rattle.assignment.specs.Costs.{IsOrdinary}
use Rattle.assignment.specs.Prices.{price_at}
use Rattle.assignment.specs.Standings.{IsSettled, greatest_cost}
use Rattle.assignment.specs.Trees.{IsAsked, gap_at}
use Rattle.assignment.proofs.Bounds.{cost-near, may-known}

module _ (costs : CostTable) (items places : List ℤ) (stands : List ℕ) (least : ℤ) (ordinary : IsOrdinary costs.candidates.now costs.influences.now)
    (item_count : length items ≡ length costs.candidates.now) (place_count : length places ≡ length costs.influences.now)
    (all_least : All (λ entry. entry ≡ least) items) (all_none : All (λ entry. entry ≡ pos 0) places)
    (nobody_stands : stands ≡ []) (least_is : least +ℤ pos greatest_cost ≡ pos 0) where
  no-price : (position : ℕ) → price_at places position ≡ pos 0
  no-price position = ⊎_elim
      (λ (known : position < length places). all_none position (pos 0) known)
      (λ (past : length places ≤ position). get_or_past places position (pos 0) past)
      (cases_lt position (length places))

  none-stands : (number : ℕ) → number < length stands → {A : Type 0} → A
  none-stands number below = let none = ap length nobody_stands in absurd (omega (arith, below, none))

  pub settled-start : IsSettled costs items places stands
  settled-start = record {
    standing = record {
      prices = record {
        item_count = item_count;
        place_count = place_count;
        signs = λ position. rw (no-price position) (omega (arith, ints));
        lower = λ number position may.
            let known = may-known costs ordinary number position may in
            let item = all_least number (pos 0) (omega (arith, known.0, item_count)) in
            let place = no-price position in
            let cost = cost-near costs ordinary number position in
            omega (arith, ints, item, place, cost.above, least_is);
      };
      few = let none = ap length nobody_stands in omega (arith, none);
      tight = λ number below. none-stands number below;
      free = λ position lacks. no-price position;
      apart = λ one two below_one below_two same. none-stands one below_one;
    };
    low = λ position. rw (no-price position) (omega (arith, ints));
    waiting = λ number from. ⊎_elim
        (λ (known : number < length items). let item = all_least number (pos 0) known in record { above = omega (arith, ints, item, least_is); below = omega (arith, ints, item, least_is) })
        (λ (past : length items ≤ number). let item = get_or_past items number (pos 0) past in record { above = omega (arith, ints, item); below = omega (arith, ints, item) })
        (cases_lt number (length items));
  }

-- no member was asked, and no position has a gap
pub asked-nobody : (costs : CostTable) (items places : List ℤ) (members : List ℕ) (moved : ℤ) (count position : ℕ)
    → IsAsked costs items places members 0 moved position (gap_at (replicate count None) position)
asked-nobody costs items places members moved count position = rw (none-there count position) (λ j below may. absurd (omega (arith, below)))
  where
    none-there : (count position : ℕ) → gap_at (replicate count None) position ≡ None
    none-there zero position = refl
    none-there (suc count) zero = refl
    none-there (suc count) (suc position) = none-there count position
