use Rattle.desk_run.proofs.OneDesk.{run_of}
use Rattle.desk_run.proofs.run.run_desk.Goals as goal

pub returns-in-Ok-clause-served : goal.returns-in-Ok-clause-served
returns-in-Ok-clause-served g c =
    let office = c.in-Ok.ensures in
    run_of _ _ _ _ _ _ _ _ _ c.in-Ok.desk.office _ _ c.serve.result.ending office.fleet office.started office.never_falls c.serve.ensures.served
