use Rattle.std.proofs.Common.{rules, arith, ap}
use Rattle.desk_lock.proofs.Rooms.{joins_at, joined_both}
use Rattle.desk_lock.proofs.room_steps.collect.Goals as goal

pub join_seat-requires : goal.join_seat-requires
join_seat-requires g c = (search rules, search rules, ap (λ z. z.1) c.requires.desk, search (rules, arith), joins_at _ _ _ _ _ _ _ _ _ _ _ _ _ _ (ap (λ z. z.0) c.requires.working) (ap (λ z. z.0) c.requires.desk))

pub returns : goal.returns
returns g c = let e = c.join_seat.ensures in record { same = e.0; working = joined_both _ _ _ _ _ _ _ _ c.requires.working c.requires.desk e.2 }
