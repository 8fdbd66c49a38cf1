use Rattle.desk_serve.proofs.Closing.{one_history}
use Rattle.desk_serve.proofs.serving.serve_doors.Goals as goal

pub returns-clause-served : goal.returns-clause-served
returns-clause-served g c =
    let held = c.parts-office.ensures in
    let said = c.parts-opening.ensures in
    let r = c.work_in_room-ending.ensures in
    one_history _ _ _ _ _ _ _ _ _ _ _ _ _ _ _ _ _ _ _ _
    c.new-bench.ensures c.spare-capacity.ensures c.requires.unasked held.office held.faults held.tables said.opening said.history r.after r.served r.ended
