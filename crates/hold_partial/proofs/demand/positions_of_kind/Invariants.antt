use Rattle.std.proofs.Common.{◌&&◌, nat_lt}
use Rattle.hold_reach.specs.Rules.{has_kind_at}
use Rattle.position_set.specs.Sets.{Stands}
use Rattle.hold_partial.proofs.demand.positions_of_kind.Given as goal

abbrev pub invariant-loop-number : goal.invariant-loop-number
invariant-loop-number l = Stands l.set (λ q. nat_lt q l.number && has_kind_at l.hold l.item q)
