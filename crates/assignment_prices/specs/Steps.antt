-- prices for one end of a span, as they are tested
use Rattle.std.specs.Prelude.{ℕ, ℤ, pos, ◌+ℤ◌, ◌-ℤ◌, ◌≤ℤ◌, List, All}
use Rattle.std.specs.List.{AllZip}
use Rattle.assignment.specs.Prices.{price_at}
use Rattle.hold_parts.specs.declared.parts.Item.{Item}
use Rattle.hold_limits.specs.Problem.{Problem}
use Rattle.hold_limits.specs.Placement.{placed_moment}
use Rattle.hold_reach.specs.Reach.{remaining, IsOpen}
use Rattle.assignment_prices.specs.Priced.{AreWhole}
use Rattle.assignment_prices.specs.declared.end.End.{End}
use Rattle.assignment_prices.specs.declared.end.End.TheVariants.{Low, High}

-- numbers counted up from the low end, or down from the high one
abbrev pub counted_from : End → ℤ → ℤ
counted_from Low number = number
counted_from High number = pos 0 -ℤ number

-- where the position is open for the container, the two prices together are at least as near to the end as its moment there
abbrev pub BoundsOn : End → Problem → List ℕ → List ℤ → Item → ℤ → ℕ → Type 0
BoundsOn end t prefix places item price q =
    IsOpen t prefix item q → counted_from end (price +ℤ price_at places q) ≤ℤ counted_from end (placed_moment t.hold (item, q))

-- the same on every position
abbrev pub Bounds : End → Problem → List ℕ → List ℤ → Item → ℤ → Type 0
Bounds end t prefix places item price = (q : ℕ) → BoundsOn end t prefix places item price q

-- prices for one end
pub record BoundEnd (end : End) (t : Problem) (prefix : List ℕ) (items places : List ℤ) : Type 0 where
  pub whole : AreWhole t prefix items places
  pub signs : All (λ price. counted_from end price ≤ℤ counted_from end (pos 0)) places
  pub bound : AllZip (Bounds end t prefix places) (remaining t prefix) items
