-- prices, and the positions that some candidates have at these prices
use Rattle.std.specs.Prelude.{◌≡◌, ℕ, ◌<◌, ◌≤◌, ℤ, pos, ◌+ℤ◌, ◌-ℤ◌, ◌≤ℤ◌, List, length}
use Rattle.assignment.specs.declared.costs.CostTable.{CostTable}
use Rattle.assignment.specs.Prices.{price_at, total}
use Rattle.assignment.specs.Tables.{number_at, Lacks, AreApart, IsWithin, MayTake, cost_at}

-- the most that a candidate costs on a position, either way
abbrev pub greatest_cost : ℕ
greatest_cost = 2000000000

-- no price of a position falls lower between two candidates
abbrev pub lowest_place : ℕ
lowest_place = 500000000000

-- what every price is within
abbrev pub price_span : ℕ
price_span = 1000000000000

-- the position is open for the candidate and costs it just what their prices are
pub record IsTight (costs : CostTable) (items places : List ℤ) (number position : ℕ) : Type 0 where
  pub may : MayTake costs number position
  pub same : price_at items number +ℤ price_at places position ≡ cost_at costs number position

-- a price for each candidate and for each position, which bound what ways cost from below
pub record AreLower (costs : CostTable) (items places : List ℤ) : Type 0 where
  pub item_count : length items ≡ length costs.candidates.now
  pub place_count : length places ≡ length costs.influences.now
  pub signs : (position : ℕ) → price_at places position ≤ℤ pos 0
  pub lower : (number position : ℕ) → MayTake costs number position
      → (price_at items number +ℤ price_at places position) ≤ℤ cost_at costs number position

-- the first candidates stand on positions of their own, which cost them just what the prices are, and other positions
-- have no price
pub record IsStanding (costs : CostTable) (items places : List ℤ) (stands : List ℕ) : Type 0 where
  pub prices : AreLower costs items places
  pub few : length stands ≤ length costs.candidates.now
  pub tight : (number : ℕ) → number < length stands → IsTight costs items places number (number_at stands number)
  pub free : (position : ℕ) → Lacks stands position → price_at places position ≡ pos 0
  pub apart : AreApart stands

-- the same between two candidates, where prices are not far from 0
pub record IsSettled (costs : CostTable) (items places : List ℤ) (stands : List ℕ) : Type 0 where
  pub standing : IsStanding costs items places stands
  pub low : (position : ℕ) → pos 0 ≤ℤ (price_at places position +ℤ pos lowest_place)
  pub waiting : (number : ℕ) → length stands ≤ number → IsWithin greatest_cost (price_at items number)

-- the prices of the first members rose by so much, and those of the positions on which all but the first of them stand
-- fell by it
pub record AreMoved (by : ℤ) (stands members : List ℕ) (count : ℕ) (items places moved_items moved_places : List ℤ) : Type 0 where
  pub item_count : length moved_items ≡ length items
  pub place_count : length moved_places ≡ length places
  pub raised : (j : ℕ) → j < count → price_at moved_items (number_at members j) ≡ price_at items (number_at members j) +ℤ by
  pub others : (number : ℕ) → ((j : ℕ) → j < count → number_at members j ≡ number → ⊥) → price_at moved_items number ≡ price_at items number
  pub lowered : (j : ℕ) → 0 < j → j < count
      → price_at moved_places (number_at stands (number_at members j)) ≡ price_at places (number_at stands (number_at members j)) -ℤ by
  pub rest : (position : ℕ) → ((j : ℕ) → 0 < j → j < count → number_at stands (number_at members j) ≡ position → ⊥)
      → price_at moved_places position ≡ price_at places position
  pub total : total moved_items +ℤ total moved_places ≡ (total items +ℤ total places) +ℤ by

-- members whose prices may move: each but the first of them stands on a position, and no price is far from 0
pub record CanMove (items places : List ℤ) (stands members : List ℕ) : Type 0 where
  pub some : 0 < length members
  pub known : (j : ℕ) → j < length members → number_at members j < length items
  pub entered : (j : ℕ) → 0 < j → j < length members → number_at members j < length stands
  pub known_places : (number : ℕ) → number < length stands → number_at stands number < length places
  pub apart : AreApart members
  pub stands_apart : AreApart stands
  pub near_items : (number : ℕ) → IsWithin price_span (price_at items number)
  pub near_places : (position : ℕ) → IsWithin price_span (price_at places position)

-- prices together beyond what any way costs
pub record AreBeyond (costs : CostTable) (items places : List ℤ) : Type 0 where
  pub prices : AreLower costs items places
  pub near_items : (number : ℕ) → IsWithin 10000000000000 (price_at items number)
  pub near_places : (position : ℕ) → IsWithin 10000000000000 (price_at places position)
  pub beyond : pos 500000000000 ≤ℤ (total items +ℤ total places)
