use Rattle.std.proofs.Common.{◌≡◌, ℕ, ◌<◌, ℤ, Some}
use Rattle.std.specs.Prelude.{slice_get}
use Rattle.hold_parts.specs.declared.parts.Item.{Item}
use Rattle.hold_reach.specs.Reach.{remaining}
use Rattle.assignment_prices.specs.Steps.{Bounds}
use Rattle.assignment_prices.proofs.price_span.bound_all.Given as goal

abbrev pub invariant-loop-at : goal.invariant-loop-at
invariant-loop-at l = (k : ℕ) (item : Item) (price : ℤ) → k < l.at → slice_get (remaining l.partial.task l.partial.prefix) k ≡ Some item → slice_get l.half.items.now k ≡ Some price
    → Bounds l.half.end l.partial.task l.partial.prefix l.half.places.now item price
