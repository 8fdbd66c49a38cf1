use Rattle.loadctl.proofs.AskedLemmas.{ask-task, ask-desk, ask-nothing}
use Rattle.loadctl.proofs.NeedLemmas.{needed-task, needed-desk}
use Rattle.loadctl.proofs.words.needs_of.Goals as goal

pub returns-in-Task-clause-needed : goal.returns-in-Task-clause-needed
returns-in-Task-clause-needed c arguments are = needed-task arguments _ (ask-task arguments c.args.one.now c.in-Task.field-0 are c.in-Task.is)

pub returns-in-Task-clause-invalid : goal.returns-in-Task-clause-invalid
returns-in-Task-clause-invalid c arguments are nothing =
    absurd (nothing.no_command _ (ask-task arguments c.args.one.now c.in-Task.field-0 are c.in-Task.is))

pub returns-in-Desk-clause-needed : goal.returns-in-Desk-clause-needed
returns-in-Desk-clause-needed c arguments are =
    let place = c.place_of_file.ensures in
    needed-desk arguments _ _ (ask-desk arguments c.args.one.now c.in-Desk.desk are c.in-Desk.is) _ place.some place.none

pub returns-in-Desk-clause-invalid : goal.returns-in-Desk-clause-invalid
returns-in-Desk-clause-invalid c arguments are nothing =
    absurd (nothing.no_desk _ (ask-desk arguments c.args.one.now c.in-Desk.desk are c.in-Desk.is).desk)

pub returns-in-Nothing-clause-usage : goal.returns-in-Nothing-clause-usage
returns-in-Nothing-clause-usage c arguments are _ = ask-nothing arguments c.args.one.now are c.in-Nothing.is
