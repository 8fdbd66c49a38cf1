use Rattle.std.proofs.Common.{◌≡◌, ℕ, ◌<◌, ℤ, Some}
use Rattle.std.specs.Prelude.{slice_get}
use Rattle.hold_parts.specs.declared.parts.Item.{Item}
use Rattle.hold_reach.specs.Reach.{remaining}
use Rattle.assignment_prices.specs.Steps.{BoundsOn}
use Rattle.assignment_prices.proofs.price_span.bounds.Given as goal

abbrev pub invariant-loop-number : goal.invariant-loop-number
invariant-loop-number l = (item : Item) (price : ℤ) → slice_get (remaining l.partial.task l.partial.prefix) l.at ≡ Some item → slice_get l.half.items.now l.at ≡ Some price
    → (q : ℕ) → q < l.number → BoundsOn l.half.end l.partial.task l.partial.prefix l.half.places.now item price q
