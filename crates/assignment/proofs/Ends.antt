-- what prices and positions say of ways once all candidates have entered, or one could not
use Rattle.std.proofs.Common.{◌≡◌, ⊎_elim, ℕ, suc, ◌*◌, ◌<◌, ◌≤◌, List, [], ◌∷◌, length, get_or, arith}
use Rattle.std.specs.Prelude.{ℤ, pos, ◌+ℤ◌, ◌≤ℤ◌, All, unsigned_abs}
use Rattle.std.specs.List.{AllZip}
use Rattle.std.proofs.lemmas.Int.{ints}
use Rattle.std.proofs.lemmas.Bool.{cases_lt}
use Rattle.std.proofs.lemmas.List.Elements.{All-from_get_or}
use Rattle.assignment.specs.declared.candidate.Candidate.{Candidate}
use Rattle.assignment.specs.declared.costs.CostTable.{CostTable}
use Rattle.assignment.specs.Ways.{IsWay, cost_of}
use Rattle.assignment.specs.Costs.{MayStand, cost_in, IsOrdinary}
use Rattle.assignment.specs.Prices.{price_at, total, AreLowerPrices}
use Rattle.assignment.specs.Tables.{number_at, nobody, IsWithin, MayTake, cost_at}
use Rattle.assignment.specs.Standings.{AreLower, IsSettled, AreBeyond, greatest_cost}
use Rattle.assignment.proofs.Bounds.{abs-within, cost-near}
use Rattle.assignment.proofs.Totals.{left_out-none, pairs-apart}
use Rattle.assignment.proofs.WeakDuality.{lower-bounds, taken, total-taken}

-- what holds at each place holds of two lists side by side
zip-from : {A B : Type 0} (R : A → B → Type 0) (xs : List A) (ys : List B) (d : A) (e : B) → length ys ≡ length xs
    → ((i : ℕ) → i < length xs → R (get_or xs i d) (get_or ys i e)) → AllZip R xs ys
zip-from R [] [] d e same each = tt
zip-from R [] (y ∷ ys) d e same each = absurd (omega (arith, same))
zip-from R (x ∷ xs) [] d e same each = absurd (omega (arith, same))
zip-from R (x ∷ xs) (y ∷ ys) d e same each = (each 0 (omega arith), zip-from R xs ys d e (omega (arith, same)) (λ i below. each (suc i) (omega (arith, below))))

-- Lower prices -----------------------------------------------------------------------------------

pub lower-prices : (costs : CostTable) (items places : List ℤ) → AreLower costs items places → AreLowerPrices MayStand (cost_in costs.influences.now) costs.candidates.now items places
unfolding MayTake cost_at
lower-prices costs items places lower = record {
  signs = All-from_get_or (λ price. price ≤ℤ pos 0) places (pos 0) (λ i below. lower.signs i);
  bound = zip-from (λ (a : Candidate) (price : ℤ). (q : ℕ) → MayStand a q → (price +ℤ price_at places q) ≤ℤ cost_in costs.influences.now (a, q)) costs.candidates.now items nobody (pos 0)
      lower.item_count (λ i below q may. lower.lower i q may);
}

pub all-bounded : (prices : List ℤ) (most : ℕ) → ((i : ℕ) → IsWithin most (price_at prices i)) → All (λ price. unsigned_abs price ≤ most) prices
all-bounded prices most each = All-from_get_or (λ price. unsigned_abs price ≤ most) prices (pos 0) (λ i below. abs-within most (price_at prices i) (each i))

-- No way -----------------------------------------------------------------------------------------

cost-of-high : (costs : CostTable) → IsOrdinary costs.candidates.now costs.influences.now → (candidates : List Candidate) (way : List ℕ)
    → ((i : ℕ) → i < length candidates → (q : ℕ) → cost_in costs.influences.now (get_or candidates i nobody, q) ≤ℤ pos greatest_cost)
    → cost_of (cost_in costs.influences.now) candidates way ≤ℤ pos (greatest_cost * length candidates)
cost-of-high costs ordinary [] way each = omega (arith, ints)
cost-of-high costs ordinary (a ∷ candidates) [] each = omega (arith, ints)
cost-of-high costs ordinary (a ∷ candidates) (q ∷ way) each =
    let first = each 0 (omega arith) q in
    let rest = cost-of-high costs ordinary candidates way (λ i below. each (suc i) (omega (arith, below))) in
    omega (arith, ints, first, rest)

cost-in-high : (costs : CostTable) → IsOrdinary costs.candidates.now costs.influences.now → (i : ℕ) → i < length costs.candidates.now → (q : ℕ)
    → cost_in costs.influences.now (get_or costs.candidates.now i nobody, q) ≤ℤ pos greatest_cost
unfolding cost_at
cost-in-high costs ordinary i below q = (cost-near costs ordinary i q).below

pub no-way : (costs : CostTable) (items places : List ℤ) → IsOrdinary costs.candidates.now costs.influences.now → AreBeyond costs items places
    → (way : List ℕ) → IsWay MayStand costs.candidates.now way → ⊥
no-way costs items places ordinary beyond way is_way =
    let low = lower-bounds MayStand (cost_in costs.influences.now) costs.candidates.now items places way (lower-prices costs items places beyond.prices) is_way in
    let high = cost-of-high costs ordinary costs.candidates.now way (cost-in-high costs ordinary) in
    omega (arith, ints, low, high, beyond.beyond, ordinary.few_candidates)

-- A way ------------------------------------------------------------------------------------------

along-equal : {A : Type 0} (cost : A × ℕ → ℤ) (candidates : List A) (items places : List ℤ) (way : List ℕ) (d : A)
    → length items ≡ length candidates → length way ≡ length candidates
    → ((i : ℕ) → i < length way → price_at items i +ℤ price_at places (number_at way i) ≡ cost (get_or candidates i d, number_at way i))
    → cost_of cost candidates way ≡ total items +ℤ taken places way
along-equal cost [] [] places [] d item_count way_count each = omega (arith, ints)
along-equal cost [] (u ∷ items) places way d item_count way_count each = absurd (omega (arith, item_count))
along-equal cost [] [] places (q ∷ way) d item_count way_count each = absurd (omega (arith, way_count))
along-equal cost (a ∷ candidates) [] places way d item_count way_count each = absurd (omega (arith, item_count))
along-equal cost (a ∷ candidates) (u ∷ items) places [] d item_count way_count each = absurd (omega (arith, way_count))
along-equal cost (a ∷ candidates) (u ∷ items) places (q ∷ way) d item_count way_count each =
    let first = each 0 (omega arith) in
    let rest = along-equal cost candidates items places way d (omega (arith, item_count)) (omega (arith, way_count)) (λ i below. each (suc i) (omega (arith, below))) in
    omega (arith, ints, first, rest)

module _ (costs : CostTable) (items places : List ℤ) (way : List ℕ) (ordinary : IsOrdinary costs.candidates.now costs.influences.now)
    (settled : IsSettled costs items places way) where
  pub settled-items : (number : ℕ) → IsWithin 10000000000000 (price_at items number)
  settled-items number = ⊎_elim
      (λ (held : number < length way).
      let tight = settled.standing.tight number held in
      let cost = cost-near costs ordinary number (number_at way number) in
      let low = settled.low (number_at way number) in
      let sign = settled.standing.prices.signs (number_at way number) in
      record { above = omega (arith, ints, tight.same, cost.above, sign); below = omega (arith, ints, tight.same, cost.below, low) })
      (λ (waits : length way ≤ number).
      let small = settled.waiting number waits in record { above = omega (arith, ints, small.above); below = omega (arith, ints, small.below) })
      (cases_lt number (length way))

  pub settled-places : (position : ℕ) → IsWithin 10000000000000 (price_at places position)
  settled-places position = record {
    above = let low = settled.low position in omega (arith, ints, low);
    below = let sign = settled.standing.prices.signs position in omega (arith, ints, sign);
  }

  module _ (whole : length way ≡ length costs.candidates.now) where
    pub settled-way : IsWay MayStand costs.candidates.now way
    unfolding MayTake
    settled-way = record {
      each = zip-from MayStand costs.candidates.now way nobody 0 whole (λ i below. (settled.standing.tight i (omega (arith, below, whole))).may);
      apart = pairs-apart way settled.standing.apart;
    }

    tight-in : (i : ℕ) → i < length way → price_at items i +ℤ price_at places (number_at way i) ≡ cost_in costs.influences.now (get_or costs.candidates.now i nobody, number_at way i)
    unfolding cost_at
    tight-in i below = (settled.standing.tight i below).same

    pub settled-tight : cost_of (cost_in costs.influences.now) costs.candidates.now way ≡ total items +ℤ total places
    settled-tight =
        let along = along-equal (cost_in costs.influences.now) costs.candidates.now items places way nobody settled.standing.prices.item_count whole tight-in in
        let split = total-taken places way (pairs-apart way settled.standing.apart) in
        let none = left_out-none places way settled.standing.free in
        omega (arith, ints, along, split, none)
