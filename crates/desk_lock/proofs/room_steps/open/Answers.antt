use Rattle.std.proofs.Common.{rules, arith}
use Rattle.desk_lock.proofs.Rooms.{opens_at, opened}
use Rattle.desk_lock.proofs.room_steps.open.Goals as goal

pub load-requires : goal.load-requires
load-requires g c = (search rules, search (rules, arith), opens_at _ _ _ _ _ _ _ _ _ _ c.requires.held.1 c.requires.held.2)

pub returns-clause-working : goal.returns-clause-working
returns-clause-working g c = opened _ 1 _ _ _ c.requires.held.1 c.load.ensures.2
