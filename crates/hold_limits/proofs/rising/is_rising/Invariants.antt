use Rattle.std.proofs.Common.{◌<◌, take}
use Rattle.std.specs.Prelude.{AllPairs}
use Rattle.hold_parts.specs.Twins.{AreTwins}
use Rattle.hold_limits.specs.Placement.{Placed, placed}
use Rattle.hold_limits.proofs.rising.is_rising.Given as goal

abbrev pub invariant-loop-rank : goal.invariant-loop-rank
invariant-loop-rank l = AllPairs (λ (a b : Placed). AreTwins a.0 b.0 → a.1 < b.1) (take l.rank (placed l.task l.prefix))
