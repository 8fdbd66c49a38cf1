use Rattle.std.proofs.Common.{◌<◌, ℕ, get_or}
use Rattle.hold_parts.specs.Twins.{AreTwins}
use Rattle.hold_limits.specs.Placement.{Placed, placed}
use Rattle.hold_limits.proofs.rising.is_after_twins.Given as goal

abbrev pub invariant-loop-rank : goal.invariant-loop-rank
invariant-loop-rank l = (k : ℕ) → k < l.rank → (d : Placed) → AreTwins (get_or (placed l.task l.numbers) k d).0 l.item → (get_or (placed l.task l.numbers) k d).1 < l.number
