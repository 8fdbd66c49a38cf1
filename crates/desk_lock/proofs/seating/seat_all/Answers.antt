use Rattle.std.proofs.Common.{rules, arith}
use Rattle.desk_lock.proofs.Keeping.{new_stay, now_all}
use Rattle.desk_lock.proofs.seating.seat_all.Goals as goal

pub returns-clause-all : goal.returns-clause-all
returns-clause-all g c = now_all _ _ _ _ (new_stay _ _ _ _ _ (search (rules, arith)) c.loop-owner.invariant.new)

pub returns-clause-stay : goal.returns-clause-stay
returns-clause-stay g c = new_stay _ _ _ _ _ (search (rules, arith)) c.loop-owner.invariant.new
