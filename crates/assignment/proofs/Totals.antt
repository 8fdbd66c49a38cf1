-- what the prices of candidates and positions come to, together
use Rattle.std.proofs.Common.{◌≡◌, ⊎_elim, ℕ, zero, suc, ◌*◌, ◌<◌, ◌≤◌, ◌≢◌, List, [], ◌∷◌, length, set, replicate, refl, sym, ◌∙◌, arith}
use Rattle.std.specs.Prelude.{ℤ, pos, ◌+ℤ◌, ◌≤ℤ◌, AllPairs}
use Rattle.std.proofs.lemmas.Int.{ints}
use Rattle.std.proofs.lemmas.Bool.{cases_eq, cases_lt}
use Rattle.std.proofs.lemmas.List.{get_or-set_same, get_or-set_other, get_or_past, get_or_default, get_or-replicate}
use Rattle.std.proofs.lemmas.List.Elements.{All-replicate}
use Rattle.std.proofs.Math.ListN.{length-set}
use Rattle.assignment.specs.declared.costs.CostTable.{CostTable}
use Rattle.assignment.specs.Prices.{price_at, total}
use Rattle.assignment.specs.Tables.{number_at, Lacks, AreApart}
use Rattle.assignment.specs.Standings.{IsStanding, greatest_cost}
use Rattle.assignment.proofs.WeakDuality.{left_out, left_out-all, taken, total-taken, total-at-least}

pub pairs-apart : (numbers : List ℕ) → AreApart numbers → AllPairs (λ p q. p ≢ q) numbers
pairs-apart numbers apart i j d before within same =
    let place : i ≡ j = apart i j (omega (arith, before, within)) within
    (get_or_default numbers i 0 d (omega (arith, before, within)) ∙ same ∙ sym (get_or_default numbers j 0 d within)) in
    omega (arith, place, before)

-- Positions without a price ----------------------------------------------------------------------

total-none : (prices : List ℤ) → ((k : ℕ) → price_at prices k ≡ pos 0) → total prices ≡ pos 0
total-none [] none = refl
total-none (u ∷ prices) none = let first = none 0 in omega (arith, ints, first, total-none prices (λ k. none (suc k)))

-- what the way leaves out has no price where only its positions have one
pub left_out-none : (places : List ℤ) (way : List ℕ) → ((q : ℕ) → Lacks way q → price_at places q ≡ pos 0) → total (left_out places way) ≡ pos 0
left_out-none places [] free = total-none places (λ k. free k (λ place below same. absurd (omega (arith, below))))
left_out-none places (q ∷ way) free = left_out-none (set places q (pos 0)) way without
  where
    without : (p : ℕ) → Lacks way p → price_at (set places q (pos 0)) p ≡ pos 0
    without p lacks = ⊎_elim
        (λ (same : p ≡ q). ⊎_elim
        (λ (known : q < length places). rw same (get_or-set_same places q (pos 0) (pos 0) known))
        (λ (past : length places ≤ q). rw same (get_or_past (set places q (pos 0)) q (pos 0) (omega (arith, past, length-set places q (pos 0)))))
        (cases_lt q (length places)))
        (λ (other : p ≡ q → ⊥). get_or-set_other places q p (pos 0) (pos 0) other ∙ free p (lacks-more other lacks))
        (cases_eq p q)
      where
        lacks-more : (p ≡ q → ⊥) → Lacks way p → Lacks (q ∷ way) p
        lacks-more other lacks zero below same = other (sym same)
        lacks-more other lacks (suc place) below same = lacks place (omega (arith, below)) same

-- Prices from below ------------------------------------------------------------------------------

along-low : (items places : List ℤ) (stands : List ℕ) → length stands ≤ length items
    → ((i : ℕ) → i < length stands → pos 0 ≤ℤ ((price_at items i +ℤ price_at places (number_at stands i)) +ℤ pos greatest_cost))
    → ((i : ℕ) → length stands ≤ i → pos 0 ≤ℤ (price_at items i +ℤ pos greatest_cost))
    → pos 0 ≤ℤ ((total items +ℤ taken places stands) +ℤ pos (greatest_cost * length items))
along-low [] places [] few held waiting = omega (arith, ints)
along-low [] places (q ∷ stands) few held waiting = absurd (omega (arith, few))
along-low (u ∷ items) places [] few held waiting =
    let first = waiting 0 (omega arith) in
    let rest = along-low items places [] (omega arith) (λ i below. absurd (omega (arith, below))) (λ i from. waiting (suc i) (omega arith)) in
    omega (arith, ints, first, rest)
along-low (u ∷ items) places (q ∷ stands) few held waiting =
    let first = held 0 (omega arith) in
    let rest = along-low items places stands (omega (arith, few)) (λ i below. held (suc i) (omega (arith, below))) (λ i from. waiting (suc i) (omega (arith, from))) in
    omega (arith, ints, first, rest)

pub standing-low : (costs : CostTable) (items places : List ℤ) (stands : List ℕ) → IsStanding costs items places stands
    → ((i : ℕ) → i < length stands → pos 0 ≤ℤ ((price_at items i +ℤ price_at places (number_at stands i)) +ℤ pos greatest_cost))
    → ((i : ℕ) → length stands ≤ i → pos 0 ≤ℤ (price_at items i +ℤ pos greatest_cost))
    → pos 0 ≤ℤ ((total items +ℤ total places) +ℤ pos (greatest_cost * length items))
standing-low costs items places stands standing held waiting =
    let along = along-low items places stands (omega (arith, standing.few, standing.prices.item_count)) held waiting in
    let split = total-taken places stands (pairs-apart stands standing.apart) in
    let none = left_out-none places stands standing.free in
    omega (arith, ints, along, split, none)

-- Different numbers ------------------------------------------------------------------------------

total-replicate : (n : ℕ) → total (replicate n (pos 1)) ≡ pos n
total-replicate zero = refl
total-replicate (suc n) = omega (arith, ints, total-replicate n)

taken-each : (places : List ℤ) (numbers : List ℕ) → ((i : ℕ) → i < length numbers → price_at places (number_at numbers i) ≡ pos 1) → taken places numbers ≡ pos (length numbers)
taken-each places [] each = refl
taken-each places (q ∷ numbers) each = let first = each 0 (omega arith) in omega (arith, ints, first, taken-each places numbers (λ i below. each (suc i) (omega (arith, below))))

-- different numbers below n are at most n
pub few-apart : (n : ℕ) (numbers : List ℕ) → AreApart numbers → ((i : ℕ) → i < length numbers → number_at numbers i < n) → length numbers ≤ n
few-apart n numbers apart below =
    let split = total-taken (replicate n (pos 1)) numbers (pairs-apart numbers apart) in
    let each = taken-each (replicate n (pos 1)) numbers (λ i within. get_or-replicate n (number_at numbers i) (pos 1) (pos 0) (below i within)) in
    let rest = total-at-least (left_out (replicate n (pos 1)) numbers) (left_out-all (λ price. pos 0 ≤ℤ price) (replicate n (pos 1)) numbers (omega (arith, ints))
    (All-replicate (λ price. pos 0 ≤ℤ price) n (pos 1) (omega (arith, ints)))) in
    omega (arith, ints, split, each, rest, total-replicate n)
