use Rattle.std.proofs.Common.{rules, refl, arith}
use Rattle.desk_lock.proofs.Seats.{draws_at, drew}
use Rattle.desk_lock.proofs.desk_steps.draw.Goals as goal

pub fetch_add-requires : goal.fetch_add-requires
fetch_add-requires g c = (search rules, search (rules, arith), draws_at _ _ _ _ _ _ _ _ _ _ _ _ c.requires.idle refl)

pub returns : goal.returns
returns g c = let e = c.fetch_add.ensures in record { same = (e.0, e.1); drawn = drew _ 1 _ _ _ _ _ _ c.requires.idle e.2 }
