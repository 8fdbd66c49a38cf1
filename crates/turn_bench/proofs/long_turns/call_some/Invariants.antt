use Rattle.desk_lock.specs.Desks.{IsSameDesk}
use Rattle.turn_bench.proofs.long_turns.call_some.Given as goal

abbrev pub invariant-loop-request : goal.invariant-loop-request
invariant-loop-request g l = IsSameDesk l.initial.desk l.desk
