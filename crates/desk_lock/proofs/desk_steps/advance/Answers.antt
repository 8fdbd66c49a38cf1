use Rattle.std.proofs.Common.{rules, refl, arith}
use Rattle.desk_lock.proofs.Seats.{advances_at, advanced}
use Rattle.desk_lock.proofs.desk_steps.advance.Goals as goal

pub fetch_add-requires : goal.fetch_add-requires
fetch_add-requires g c = let d = c.requires.done in (search rules, search (rules, arith), advances_at _ _ _ _ _ _ _ _ _ _ _ _ _ _ _ d.at refl refl d.grown d.by d.same d.later d.spare)

pub returns-clause-idle : goal.returns-clause-idle
returns-clause-idle g c = advanced _ _ 1 _ 1 _ _ _ _ c.requires.done.at c.fetch_add.ensures.2
