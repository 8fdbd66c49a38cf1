use Rattle.std.proofs.Common.{◌≡◌, ◌*◌, ◌^◌, ◌≤◌, take}
use Rattle.hold_parts.specs.Limits.{is_limited}
use Rattle.hold_limits.specs.Placement.{loose_load}
use Rattle.hold_limits.proofs.stowage.load_on.Given as goal

abbrev pub invariant-loop-load : goal.invariant-loop-load
invariant-loop-load l = (l.mass ≡ loose_load (is_limited l.limit) (take l.load-index l.stowage)) × (l.mass ≤ 2 ^ 32 * l.load-index)
