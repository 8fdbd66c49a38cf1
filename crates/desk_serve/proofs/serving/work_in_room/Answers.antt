use Rattle.std.proofs.Common.{subst, arith}
use Rattle.desk_lock.specs.declared.views.Origin.{Origin}
use Rattle.desk_service.specs.Alone.{Counted}
use Rattle.desk_service.specs.Several.{IsAfter}
use Rattle.desk_serve.proofs.Closing.{all_back, doors_served, ends_as}
use Rattle.desk_serve.proofs.serving.work_in_room.Goals as goal

pub close-bench-requires : goal.close-bench-requires
close-bench-requires g c =
    let r = c.work_at_doors-all.ensures in
    let s = c.in-Ok-start.ensures in
    all_back _ _ _ _ _ (let a = s.count.0 in let b = s.count.1 in omega arith) s.new r.desks r.same

pub returns-clause-after : goal.returns-clause-after
returns-clause-after g c =
    subst (λ (p : Origin Counted). IsAfter p.machine c.close-bench.result) c.in-Ok-start.ensures.origin c.close-bench.ensures.follows

pub returns-clause-served : goal.returns-clause-served
returns-clause-served g c =
    let r = c.work_at_doors-all.ensures in
    let s = c.in-Ok-start.ensures in
    let k = c.requires.doors.1 in
    let a = c.len-2.ensures in
    let b = s.count.0 in
    doors_served _ _ _ _ _ _ _ _ _ _ _ _ _ _ _ _ c.close-bench.result _ s.origin c.requires.unasked (omega arith) s.new r c.close-bench.ensures.history

pub returns-clause-ended : goal.returns-clause-ended
returns-clause-ended g c = rw c.end_of.ensures (ends_as _ _ _ _ _ _ _ _ _ _ _ _ c.work_at_doors-all.ensures)
