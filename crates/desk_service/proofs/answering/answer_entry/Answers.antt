use Rattle.desk_service.proofs.Outcomes.{is_due, not_error, one_turn, no_room}
use Rattle.desk_service.proofs.answering.answer_entry.Goals as goal

pub returns-in-Ok-clause-answered : goal.returns-in-Ok-clause-answered
returns-in-Ok-clause-answered g c =
    let e = c.in-Ok.ensures in
    one_turn _ _ _ _ c.args.request c.in-Ok.reply _ _ _ (not_error e.forever) e.answered (is_due _ _ (rw c.document_of-document.ensures at c.answer_to.ensures))

pub returns-clause-answered : goal.returns-clause-answered
returns-clause-answered g c = let e = c.in-Err.ensures in no_room _ _ _ _ c.args.request _ _ e.unseen e.full
