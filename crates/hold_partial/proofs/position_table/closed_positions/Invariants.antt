use Rattle.std.proofs.Common.{◌&&◌, nat_lt, nat_le}
use Rattle.position_set.specs.Sets.{Stands}
use Rattle.hold_partial.proofs.position_table.closed_positions.Given as goal

abbrev pub invariant-loop-other : goal.invariant-loop-other
invariant-loop-other l = Stands l.set (λ q. nat_lt q l.other && nat_le q l.number)
