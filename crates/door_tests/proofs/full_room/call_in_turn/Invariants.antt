use Rattle.desk_lock.specs.Rooms.{AreSameDesks}
use Rattle.door_tests.proofs.full_room.call_in_turn.Given as goal

abbrev pub invariant-loop-n : goal.invariant-loop-n
invariant-loop-n g l = AreSameDesks l.initial.desks l.desks
