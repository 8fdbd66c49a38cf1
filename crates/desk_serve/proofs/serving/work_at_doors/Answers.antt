use Rattle.std.proofs.Common.{sym, ◌∙◌}
use Rattle.desk_lock.proofs.Keeping.{written}
use Rattle.desk_serve.proofs.Running.{runs_back}
use Rattle.desk_serve.proofs.serving.work_at_doors.Goals as goal

pub returns : goal.returns
returns g c =
    let a = c.as_mut_slice.ensures in
    let w = c.work_with_tools.ensures in
    let p = c.part.ensures in
    runs_back _ _ _ _ _ _ _ (λ b. b.door) (λ b. b.desk) (λ b. b.closed) _ _ _ _ _ _ _ _ _ _
    a.value (written _ _ _ (sym (w.many ∙ a.len))) c.as_slice.ensures.value w.many w.each c.pair.ensures.doors c.pair.ensures.desks p.doors p.desks c.are_all_closed-all.ensures
