use Rattle.loadctl.proofs.ServeLemmas.{serve-ends}
use Rattle.loadctl.proofs.serve.serve_office.Goals as goal

pub returns-clause-ends : goal.returns-clause-ends
returns-clause-ends g c left reads =
    let ran = c.run_doors-ending.ensures in
    let status = c.status_of-status.ensures in
    serve-ends _ _ _ _ _ _ _ _ _ _ _ _ _ _ _ _ _ _ _ _ _ _ _ _ _ left reads c.run_doors-ending.result.ending
    ran.served ran.refused ran.empty ran.unserved ran.counted ran.uncounted ran.cause ran.same_tables ran.same_rows ran.same_count status.served status.unchanged status.reported
