use Rattle.std.proofs.Common.{◌&&◌, nat_lt}
use Rattle.hold_limits.specs.Enumeration.{is_accepted}
use Rattle.position_set.specs.Sets.{Stands}
use Rattle.hold_choices.proofs.choices.accepting.Given as goal

abbrev pub invariant-loop-number : goal.invariant-loop-number
invariant-loop-number l = Stands l.set (λ q. nat_lt q l.number && is_accepted l.hold (l.item, q))
