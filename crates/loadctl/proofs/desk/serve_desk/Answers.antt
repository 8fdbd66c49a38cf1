use Rattle.loadctl.proofs.DeskLemmas.{desk-ends}
use Rattle.loadctl.proofs.desk.serve_desk.Goals as goal

pub returns-clause-ends : goal.returns-clause-ends
returns-clause-ends g c =
    let ran = c.run_desk-ending.ensures in
    let status = c.status_of-status.ensures in
    desk-ends _ _ _ _ _ _ _ _ _ _ _ _ _ _ _ _ _ _ _ _ _ _ c.run_desk-ending.result.ending
    ran.served ran.refused ran.empty ran.unserved ran.counted ran.uncounted ran.cause ran.same_tables ran.same_count status.served status.unchanged status.reported
