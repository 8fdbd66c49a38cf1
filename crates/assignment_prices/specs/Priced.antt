-- prices of the containers that a prefix leaves and of the positions, and the span of hold indices that they show
use Rattle.std.specs.Prelude.{◌≡◌, ℕ, ◌≤◌, ℤ, ◌+ℤ◌, unsigned_abs, List, length, All}
use Rattle.assignment.specs.Prices.{AreLowerPrices, AreUpperPrices, total}
use Rattle.hold_limits.specs.Problem.{Problem}
use Rattle.hold_limits.specs.Placement.{placed_moment, hold_index}
use Rattle.hold_reach.specs.Reach.{remaining, IsOpen}
use Rattle.assignment_prices.specs.declared.prices.Prices.{Prices}

-- no price is beyond 10^13 ticks either way
abbrev pub AreSmall : List ℤ → Type 0
AreSmall prices = All (λ price. unsigned_abs price ≤ 10000000000000) prices

-- one price for each container that is left, and one for each position
pub record AreWhole (t : Problem) (prefix : List ℕ) (items places : List ℤ) : Type 0 where
  pub one_each : length items ≡ length (remaining t prefix)
  pub one_place : length places ≡ length t.hold.positions
  pub small_items : AreSmall items
  pub small_places : AreSmall places

-- prices of what the prefix leaves: with that of an open position, the lower price of a container is at most its moment there, and
-- its upper price at least that
pub record ArePricesOf (t : Problem) (prefix : List ℕ) (x : Prices) : Type 0 where
  pub lower_whole : AreWhole t prefix x.lower_items.items x.lower_places.items
  pub lower : AreLowerPrices (IsOpen t prefix) (placed_moment t.hold) (remaining t prefix) x.lower_items.items x.lower_places.items
  pub upper_whole : AreWhole t prefix x.upper_items.items x.upper_places.items
  pub upper : AreUpperPrices (IsOpen t prefix) (placed_moment t.hold) (remaining t prefix) x.upper_items.items x.upper_places.items

-- from the hold index so far with all lower prices to the same with all upper prices
abbrev pub price_span : Problem → List ℕ → Prices → ℤ × ℤ
price_span t prefix x = (
  hold_index t prefix +ℤ (total x.lower_items.items +ℤ total x.lower_places.items),
  hold_index t prefix +ℤ (total x.upper_items.items +ℤ total x.upper_places.items),
)
