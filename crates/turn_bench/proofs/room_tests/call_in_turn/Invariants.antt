use Rattle.desk_lock.specs.Rooms.{AreSameDesks}
use Rattle.turn_bench.proofs.room_tests.call_in_turn.Given as goal

abbrev pub invariant-loop-n : goal.invariant-loop-n
invariant-loop-n g l = AreSameDesks l.initial.desks l.desks
