-- prices of candidates and of positions, which bound what every way costs
--
-- A price is a whole number. No way costs less than all lower prices together, or more than all upper prices: it takes
-- each position at most once, and what it leaves out could only help.
use Rattle.std.specs.Prelude.{ℕ, ℤ, pos, ◌+ℤ◌, ◌≤ℤ◌, List, All, slice_index_or}
use Rattle.std.specs.List.{AllZip}
use Rattle.base_words.specs.Lists.{int_sum_by}

-- the price of the position with this number
abbrev pub price_at : List ℤ → ℕ → ℤ
price_at places q = slice_index_or places q (pos 0)

-- all prices together
abbrev pub total : List ℤ → ℤ
total prices = int_sum_by (λ price. price) prices

-- no position has a price above 0, and the price of a candidate with that of a position on which it may stand is at most
-- what it costs there
pub record AreLowerPrices {A : Type 0} (May : A → ℕ → Type 0) (cost : A × ℕ → ℤ) (candidates : List A) (items places : List ℤ) : Type 0 where
  pub signs : All (λ price. price ≤ℤ pos 0) places
  pub bound : AllZip (λ a price. (q : ℕ) → May a q → (price +ℤ price_at places q) ≤ℤ cost (a, q)) candidates items

-- no position has a price below 0, and the price of a candidate with that of a position on which it may stand is at least
-- what it costs there
pub record AreUpperPrices {A : Type 0} (May : A → ℕ → Type 0) (cost : A × ℕ → ℤ) (candidates : List A) (items places : List ℤ) : Type 0 where
  pub signs : All (λ price. pos 0 ≤ℤ price) places
  pub bound : AllZip (λ a price. (q : ℕ) → May a q → cost (a, q) ≤ℤ (price +ℤ price_at places q)) candidates items
