use Rattle.std.proofs.Common.{◌≡◌, map, take, zip}
use Rattle.hold_limits.specs.BranchOrder.{ordered}
use Rattle.hold_limits.specs.Stowage.{as_load}
use Rattle.hold_limits.proofs.stowage.placed_containers.Given as goal

abbrev pub invariant-loop-rank : goal.invariant-loop-rank
invariant-loop-rank l = l.stowage.items ≡ map as_load (take l.rank (zip (ordered l.items) l.prefix))
