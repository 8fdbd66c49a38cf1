use Rattle.std.proofs.Common.{◌-◌, length}
use Rattle.hold_reach.proofs.ReachLemmas.{IsSummed}
use Rattle.plan_tests.proofs.plain_reach.span_of.Given as goal

abbrev pub invariant-loop-rank : goal.invariant-loop-rank
invariant-loop-rank l = IsSummed l.extent l.task l.prefix l.rank (l.rank - length l.prefix) l.span
