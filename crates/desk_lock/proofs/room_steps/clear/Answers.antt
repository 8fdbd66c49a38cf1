use Rattle.std.proofs.Common.{rules, arith}
use Rattle.desk_lock.proofs.Rooms.{clears_at, cleared}
use Rattle.desk_lock.proofs.room_steps.clear.Goals as goal

pub load-requires : goal.load-requires
load-requires g c = (search rules, search (rules, arith), clears_at _ _ _ _ _ _ _ _ _ _ _ c.requires.vacant)

pub returns-clause-out : goal.returns-clause-out
returns-clause-out g c = cleared _ 1 _ _ _ _ c.requires.vacant c.load.ensures.2
