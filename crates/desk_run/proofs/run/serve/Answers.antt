-- The office that served the link is the one that is handed back, and its input and output ended as the link left them.
use Rattle.std.proofs.Common.{rules}
use Rattle.desk_run.proofs.Lines.{office-served}
use Rattle.desk_run.proofs.run.serve.Goals as goal

pub returns-clause-served : goal.returns-clause-served
returns-clause-served g c =
    let begins = c.new-solo.ensures in
    let held = c.parts-office.ensures in
    let said = c.parts-opening.ensures in
    let serves = c.serve_connection-end.ensures in
    office-served _ _ _ _ _ c.serve_connection-end.new.link _ _ c.new-solo.result c.serve_connection-end.new.counter _ _ _ _ _ _ _ _ _ _
    begins held.office held.faults c.requires.unasked said.opening said.history held.tables serves.follows
    (search rules) (search rules) (search rules) (search rules) serves.served
