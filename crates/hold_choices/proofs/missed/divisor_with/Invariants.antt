use Rattle.std.proofs.Common.{ℕ, ◌-ℤ◌, length}
use Rattle.std.specs.Prelude.{◌↔◌, All}
use Rattle.std.specs.Int.{◌∣◌}
use Rattle.hold_limits.specs.Placement.{placed_moment}
use Rattle.position_set.specs.Sets.{members}
use Rattle.price_trees.specs.Trees.{IsMultiple}
use Rattle.hold_choices.proofs.missed.divisor_with.Given as goal

abbrev pub invariant-loop-number : goal.invariant-loop-number
invariant-loop-number l = (d : ℕ)
    → ((d ∣ l.common) × All (λ q. IsMultiple d (placed_moment l.hold (l.item, q) -ℤ placed_moment l.hold (l.item, l.first))) (members l.rest))
    ↔ ((d ∣ l.fn.divisor) × All (λ q. IsMultiple d (placed_moment l.hold (l.item, q) -ℤ placed_moment l.hold (l.item, l.first))) (members l.initial.rest))

abbrev pub decreases-loop-number : goal.decreases-loop-number
decreases-loop-number l = length (members l.rest)
