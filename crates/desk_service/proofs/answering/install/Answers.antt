use Rattle.desk_service.proofs.Outcomes.{asked_install, no_room_to_install}
use Rattle.desk_service.proofs.answering.install.Goals as goal

pub returns-in-Ok-clause-planned : goal.returns-in-Ok-clause-planned
returns-in-Ok-clause-planned g c search task finds =
    let e = c.in-Ok.ensures in
    asked_install _ _ _ c.args.key c.args.edition search task c.args.plan c.args.text c.in-Ok.reply _ _ _ finds
    (rw c.request_to_install.ensures.request at e.answered) c.answer_install.ensures.answer

pub returns-in-Err-clause-planned : goal.returns-in-Err-clause-planned
returns-in-Err-clause-planned g c search task finds =
    let e = c.in-Err.ensures in no_room_to_install _ _ _ c.args.key c.args.edition search task c.args.plan c.args.text _ _ finds e.unseen e.full
