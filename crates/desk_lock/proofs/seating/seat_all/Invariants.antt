use Rattle.std.proofs.Common.{◌≡◌, ◌+◌, ◌≤◌, [], vec_len, vec_capacity}
use Rattle.std.specs.List.{All}
use Rattle.std.specs.Arc.{arc_value}
use Rattle.desk_lock.specs.declared.views.Stage.TheVariants.{Working as working}
use Rattle.desk_lock.specs.Steps.{room_seat}
use Rattle.desk_lock.specs.Rooms.{AreNew}
use Rattle.desk_lock.proofs.seating.seat_all.Given as goal

abbrev pub invariant-loop-owner : goal.invariant-loop-owner
invariant-loop-owner g l = record {
  left : vec_len l.owners + l.place ≡ l.count;
  made : vec_len l.desks ≡ l.place;
  room : l.count ≤ vec_capacity l.desks;
  same : All (λ owner. arc_value owner ≡ l.board) l.owners.items;
  at : l.seat.me ≡ room_seat l.board.shared.key l.place working [] [];
  table : l.seat.table_id ≡ l.initial.seat.table_id;
  new : AreNew g.M.Machine.history l.board.shared.key l.board.shared.table_id l.desks.items;
}

abbrev pub decreases-loop-owner : goal.decreases-loop-owner
decreases-loop-owner g l = vec_len l.owners
