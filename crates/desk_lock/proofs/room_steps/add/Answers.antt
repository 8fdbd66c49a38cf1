use Rattle.std.proofs.Common.{rules, arith, ap}
use Rattle.desk_lock.proofs.Rooms.{splits_at, split_left, split_right}
use Rattle.desk_lock.proofs.room_steps.add.Goals as goal

pub split_seat-requires : goal.split_seat-requires
split_seat-requires g c = (search rules, search (rules, arith), splits_at _ _ _ _ _ _ _ _ _ _ (ap (λ z. z.0) c.requires.working) c.requires.few)

pub returns : goal.returns
returns g c = let e = c.split_seat.ensures in record { same = (e.0, e.3); working = split_left _ _ _ _ _ c.requires.working e.2; desk = split_right _ _ _ _ _ _ c.requires.working e.4 }
