use Rattle.desk_answers.specs.declared.answer.Document.TheVariants.{Loadsheet}
use Rattle.desk_service.proofs.Outcomes.{is_due, not_error, no_task, no_room_to_take, plan_answered}
use Rattle.desk_service.proofs.Statuses.{known_status}
use Rattle.desk_service.proofs.answering.answer_plan.Goals as goal

pub returns-in-Ok-Task-clause-answered : goal.returns-in-Ok-Task-clause-answered
returns-in-Ok-Task-clause-answered g c =
    let e = c.in-Ok-Task.ensures in
    plan_answered _ _ _ _ c.args.key c.args.edition c.args.search c.in-Ok-Task.task _ _ _ _
    (rw c.in-Ok-Task.field-0-is at e.answered) (not_error e.forever) (rw (e.setting, e.desk) at c.answer_task.ensures.planned)

pub returns-in-Ok-Task-clause-follows : goal.returns-in-Ok-Task-clause-follows
returns-in-Ok-Task-clause-follows g c = g.met.C.Counter.follows_on _ _ _ c.in-Ok-Task.ensures.follows c.answer_task.ensures.follows

pub returns-in-Ok : goal.returns-in-Ok
returns-in-Ok g c =
    let e = c.in-Ok.ensures in
    record {
      answered = no_task _ _ _ _ c.args.key c.args.edition c.args.search c.in-Ok.reply _ _ _ (not_error e.forever) e.answered (is_due _ _ c.answer_to.ensures);
      known = known_status Loadsheet c.in-Ok.reply c.answer_to.result c.answer_to.ensures;
      setting = e.setting;
      desk = e.desk;
      full = λ f. absurd (not_error e.forever f);
      follows = e.follows;
    }

pub returns-clause-answered : goal.returns-clause-answered
returns-clause-answered g c = let e = c.in-Err.ensures in no_room_to_take _ _ _ _ c.args.key c.args.edition c.args.search _ _ e.unseen e.full
