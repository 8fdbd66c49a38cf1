use Rattle.std.proofs.Common.{rules, arith}
use Rattle.desk_lock.proofs.Seats.{counts}
use Rattle.desk_lock.proofs.desk_steps.waiting.Goals as goal

pub load-served-requires : goal.load-served-requires
load-served-requires g c = (search rules, search (rules, arith), counts _ _ _ _ _ _ _ _ _ _ (omega arith))

pub load-drawn-requires : goal.load-drawn-requires
load-drawn-requires g c = (search rules, search (rules, arith), counts _ _ _ _ _ _ _ _ _ _ (omega arith))
