use Rattle.std.proofs.Common.{◌≡◌}
use Rattle.desk_lock.proofs.desk_steps.stand_back.Given as goal

abbrev pub invariant-loop-looks : goal.invariant-loop-looks
invariant-loop-looks g l = record { me : l.seat.me ≡ l.initial.seat.me; table : l.seat.table_id ≡ l.initial.seat.table_id; id : l.seat.id ≡ l.initial.seat.id }
