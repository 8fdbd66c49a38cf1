use Rattle.std.proofs.Common.{refl}
use Rattle.loadctl.specs.Desk.IsReported.{no_memory}
use Rattle.loadctl.proofs.DeskLemmas.{reported-whole, reported-cut}
use Rattle.loadctl.proofs.desk.report.Goals as goal

pub returns-in-Ok-write_all : goal.returns-in-Ok-write_all
returns-in-Ok-write_all g c =
    reported-whole c.args.fault.now _ _ _ _ _ _ c.as_slice.ensures.value c.in-Ok.ensures _ c.status_of_fault.ensures c.in-Ok-write_all.ensures.whole c.in-Ok-write_all.ensures.uncounted

pub returns-in-Ok : goal.returns-in-Ok
returns-in-Ok g c =
    reported-cut c.args.fault.now _ _ _ _ _ _ c.as_slice.ensures.value c.in-Ok.ensures c.in-Err-write_all.ensures.part c.in-Err-write_all.ensures.counted

pub returns : goal.returns
returns g c = no_memory refl refl
