use Rattle.std.proofs.Common.{◌&&◌, pos, int_lt, nat_lt}
use Rattle.hold_limits.specs.Lateral.{side_at}
use Rattle.position_set.specs.Sets.{Stands}
use Rattle.hold_partial.proofs.sides.left_positions.Given as goal

abbrev pub invariant-loop-number : goal.invariant-loop-number
invariant-loop-number l = Stands l.set (λ q. nat_lt q l.number && int_lt (side_at l.hold q) (pos 0))
