use Rattle.std.proofs.Common.{◌<◌, ℕ, get_or, zip}
use Rattle.hold_limits.specs.BranchOrder.{ordered}
use Rattle.hold_limits.specs.Placement.{IsAccepted, Placed}
use Rattle.hold_limits.proofs.sound.are_accepted.Given as goal

abbrev pub invariant-loop-rank : goal.invariant-loop-rank
invariant-loop-rank l = (k : ℕ) → k < l.rank → (d : Placed) → IsAccepted l.hold (get_or (zip (ordered l.items) l.prefix) k d)
