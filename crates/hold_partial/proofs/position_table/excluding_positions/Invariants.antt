use Rattle.std.proofs.Common.{◌&&◌, nat_lt}
use Rattle.hold_limits.specs.Enumeration.{exclude}
use Rattle.position_set.specs.Sets.{Stands}
use Rattle.hold_partial.proofs.position_table.excluding_positions.Given as goal

abbrev pub invariant-loop-other : goal.invariant-loop-other
invariant-loop-other l = Stands l.set (λ q. nat_lt q l.other && exclude l.hold q l.number)
