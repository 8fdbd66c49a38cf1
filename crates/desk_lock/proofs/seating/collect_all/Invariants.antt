use Rattle.std.proofs.Common.{◌≡◌, ◌++◌, [], map, vec_len}
use Rattle.std.specs.List.{All}
use Rattle.desk_lock.specs.declared.views.Stage.TheVariants.{Working as working}
use Rattle.desk_lock.specs.Steps.{room_seat}
use Rattle.desk_lock.specs.Views.{card_of, collected_in}
use Rattle.desk_lock.specs.Desks.{origin, room_of}
use Rattle.desk_lock.proofs.seating.collect_all.Given as goal

abbrev pub invariant-loop-desk : goal.invariant-loop-desk
invariant-loop-desk g l = record {
  at : l.seat.me ≡ room_seat l.board.shared.key l.count working (collected_in l.seat.me.0) [];
  table : l.seat.table_id ≡ l.initial.seat.table_id;
  mine : All (λ d. (origin d ≡ l.board.shared.key) × (room_of d ≡ l.initial.seat.table_id)) l.desks.items;
  whole : map (λ d. (d.place, card_of d.seat.me.0)) l.desks.items ++ collected_in l.seat.me.0 ≡ map (λ d. (d.place, card_of d.seat.me.0)) l.initial.desks.items;
}

abbrev pub decreases-loop-desk : goal.decreases-loop-desk
decreases-loop-desk g l = vec_len l.desks
