use Rattle.std.proofs.Common.{rules, refl, arith}
use Rattle.desk_lock.proofs.Seats.{looks_at, looked}
use Rattle.desk_lock.proofs.desk_steps.look.Goals as goal

pub load-requires : goal.load-requires
load-requires g c = (search rules, search (rules, arith), looks_at _ _ _ _ _ _ _ _ _ _ _ _ _ c.requires.drawn refl c.requires.below refl)

pub returns : goal.returns
returns g c = let e = c.load.ensures in record { same = (e.0, e.1); turn = looked _ _ _ _ _ _ 1 _ _ _ _ _ _ _ c.requires.drawn refl e.2 }
