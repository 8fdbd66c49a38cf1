-- no way costs less than lower prices, or more than upper prices
--
-- The prices of the positions are split in two: those of the way, and those that the way leaves out.
use Rattle.std.proofs.Common.{◌≡◌, ℕ, zero, suc, ◌≢◌, List, [], ◌∷◌, set, refl, sym, arith}
use Rattle.std.specs.Prelude.{ℤ, pos, ◌+ℤ◌, ◌≤ℤ◌, All, AllPairs}
use Rattle.std.specs.List.{AllZip}
use Rattle.std.proofs.lemmas.Int.{ints}
use Rattle.std.proofs.lemmas.List.{get_or-set_other}
use Rattle.std.proofs.lemmas.List.Elements.{All-head, All-tail, All-set}
use Rattle.base_words.specs.Lists.{int_sum_by}
use Rattle.assignment.specs.Ways.{IsWay, cost_of}
use Rattle.assignment.specs.Prices.{price_at, total, AreLowerPrices, AreUpperPrices}

-- Prices without a way ---------------------------------------------------------------------------

-- the prices of the positions that the way leaves out: 0 for those that it takes
abbrev pub left_out : List ℤ → List ℕ → List ℤ
left_out places [] = places
left_out places (q ∷ way) = left_out (set places q (pos 0)) way

-- what the positions of the way have as prices
abbrev pub taken : List ℤ → List ℕ → ℤ
taken places way = int_sum_by (price_at places) way

total-without : (places : List ℤ) (q : ℕ) → total places ≡ price_at places q +ℤ total (set places q (pos 0))
total-without [] q = refl
total-without (v ∷ places) zero = omega (arith, ints)
total-without (v ∷ places) (suc q) = omega (arith, ints, total-without places q)

taken-without : (places : List ℤ) (q : ℕ) (way : List ℕ) → All (λ p. p ≢ q) way → taken (set places q (pos 0)) way ≡ taken places way
taken-without places q [] apart = refl
taken-without places q (p ∷ way) apart =
    let here : price_at (set places q (pos 0)) p ≡ price_at places p = get_or-set_other places q p (pos 0) (pos 0) (All-head (λ p. p ≢ q) p way apart) in
    omega (arith, ints, here, taken-without places q way (All-tail (λ p. p ≢ q) p way apart))

apart-tail : (q : ℕ) (way : List ℕ) → AllPairs (λ a b. a ≢ b) (q ∷ way) → AllPairs (λ a b. a ≢ b) way
apart-tail q way apart i j d before within = apart (suc i) (suc j) d (omega arith) (omega arith)

apart-head : (q : ℕ) (way : List ℕ) → AllPairs (λ a b. a ≢ b) (q ∷ way) → All (λ p. p ≢ q) way
apart-head q way apart k d within same = apart zero (suc k) d (omega arith) (omega arith) (sym same)

pub total-taken : (places : List ℤ) (way : List ℕ) → AllPairs (λ a b. a ≢ b) way → total places ≡ taken places way +ℤ total (left_out places way)
total-taken places [] apart = omega (arith, ints)
total-taken places (q ∷ way) apart =
    let rest : total (set places q (pos 0)) ≡ taken (set places q (pos 0)) way +ℤ total (left_out (set places q (pos 0)) way) =
    total-taken (set places q (pos 0)) way (apart-tail q way apart) in
    omega (arith, ints, total-without places q, rest, taken-without places q way (apart-head q way apart))

pub left_out-all : (P : ℤ → Type 0) (places : List ℤ) (way : List ℕ) → P (pos 0) → All P places → All P (left_out places way)
left_out-all P places [] none each = each
left_out-all P places (q ∷ way) none each = left_out-all P (set places q (pos 0)) way none (All-set P places q (pos 0) none each)

total-at-most : (prices : List ℤ) → All (λ price. price ≤ℤ pos 0) prices → total prices ≤ℤ pos 0
total-at-most [] each = omega (arith, ints)
total-at-most (v ∷ prices) each =
    omega (arith, ints, All-head (λ price. price ≤ℤ pos 0) v prices each, total-at-most prices (All-tail (λ price. price ≤ℤ pos 0) v prices each))

pub total-at-least : (prices : List ℤ) → All (λ price. pos 0 ≤ℤ price) prices → pos 0 ≤ℤ total prices
total-at-least [] each = omega (arith, ints)
total-at-least (v ∷ prices) each =
    omega (arith, ints, All-head (λ price. pos 0 ≤ℤ price) v prices each, total-at-least prices (All-tail (λ price. pos 0 ≤ℤ price) v prices each))

-- Prices along a way -----------------------------------------------------------------------------

along-lower : {A : Type 0} (May : A → ℕ → Type 0) (cost : A × ℕ → ℤ) (candidates : List A) (items places : List ℤ) (way : List ℕ)
    → AllZip (λ a price. (q : ℕ) → May a q → (price +ℤ price_at places q) ≤ℤ cost (a, q)) candidates items → AllZip May candidates way
    → (total items +ℤ taken places way) ≤ℤ cost_of cost candidates way
along-lower May cost [] [] places [] bound each = omega (arith, ints)
along-lower May cost [] (u ∷ items) places way bound each = absurd bound
along-lower May cost [] [] places (q ∷ way) bound each = absurd each
along-lower May cost (a ∷ candidates) [] places way bound each = absurd bound
along-lower May cost (a ∷ candidates) (u ∷ items) places [] bound each = absurd each
along-lower May cost (a ∷ candidates) (u ∷ items) places (q ∷ way) bound each =
    omega (arith, ints, bound.0 q each.0, along-lower May cost candidates items places way bound.1 each.1)

along-upper : {A : Type 0} (May : A → ℕ → Type 0) (cost : A × ℕ → ℤ) (candidates : List A) (items places : List ℤ) (way : List ℕ)
    → AllZip (λ a price. (q : ℕ) → May a q → cost (a, q) ≤ℤ (price +ℤ price_at places q)) candidates items → AllZip May candidates way
    → cost_of cost candidates way ≤ℤ (total items +ℤ taken places way)
along-upper May cost [] [] places [] bound each = omega (arith, ints)
along-upper May cost [] (u ∷ items) places way bound each = absurd bound
along-upper May cost [] [] places (q ∷ way) bound each = absurd each
along-upper May cost (a ∷ candidates) [] places way bound each = absurd bound
along-upper May cost (a ∷ candidates) (u ∷ items) places [] bound each = absurd each
along-upper May cost (a ∷ candidates) (u ∷ items) places (q ∷ way) bound each =
    omega (arith, ints, bound.0 q each.0, along-upper May cost candidates items places way bound.1 each.1)

-- The laws ---------------------------------------------------------------------------------------

-- no way costs less than all lower prices together
pub lower-bounds : {A : Type 0} (May : A → ℕ → Type 0) (cost : A × ℕ → ℤ) (candidates : List A) (items places : List ℤ) (way : List ℕ)
    → AreLowerPrices May cost candidates items places → IsWay May candidates way → (total items +ℤ total places) ≤ℤ cost_of cost candidates way
lower-bounds May cost candidates items places way prices is_way =
    let others = total-at-most (left_out places way) (left_out-all (λ price. price ≤ℤ pos 0) places way (omega (arith, ints)) prices.signs) in
    omega (arith, ints, along-lower May cost candidates items places way prices.bound is_way.each, total-taken places way is_way.apart, others)

-- no way costs more than all upper prices together
pub upper-bounds : {A : Type 0} (May : A → ℕ → Type 0) (cost : A × ℕ → ℤ) (candidates : List A) (items places : List ℤ) (way : List ℕ)
    → AreUpperPrices May cost candidates items places → IsWay May candidates way → cost_of cost candidates way ≤ℤ (total items +ℤ total places)
upper-bounds May cost candidates items places way prices is_way =
    let others = total-at-least (left_out places way) (left_out-all (λ price. pos 0 ≤ℤ price) places way (omega (arith, ints)) prices.signs) in
    omega (arith, ints, along-upper May cost candidates items places way prices.bound is_way.each, total-taken places way is_way.apart, others)
