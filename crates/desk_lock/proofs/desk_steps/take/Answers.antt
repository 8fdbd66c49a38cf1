use Rattle.std.proofs.Common.{rules, Some, refl}
use Rattle.desk_lock.proofs.desk_steps.take.Goals as goal

pub exchange-requires : goal.exchange-requires
exchange-requires g c = (search rules, (Some c.requires.held.0, rw c.requires.held.1 refl))
