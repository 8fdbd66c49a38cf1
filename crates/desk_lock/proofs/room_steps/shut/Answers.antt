use Rattle.std.proofs.Common.{rules, arith}
use Rattle.desk_lock.proofs.Rooms.{shuts_at, shut_tells}
use Rattle.desk_lock.proofs.room_steps.shut.Goals as goal

pub load-requires : goal.load-requires
load-requires g c = (search rules, search (rules, arith), shuts_at _ _ _ _ _ _ _ _ _ _ _ c.requires.working c.requires.all c.requires.idle)

pub returns : goal.returns
returns g c = let e = c.load.ensures in record { same = e.0; machine = shut_tells _ _ _ _ _ _ _ _ _ _ c.requires.working e.2 }
