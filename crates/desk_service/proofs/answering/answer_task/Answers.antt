use Rattle.std.proofs.lemmas.Result.{err_from_is_err_and}
use Rattle.desk_service.proofs.Outcomes.{memory_out, no_plan}
use Rattle.desk_service.proofs.answering.answer_task.Goals as goal

pub returns-in_err-plan-clause-planned : goal.returns-in_err-plan-clause-planned
returns-in_err-plan-clause-planned g c =
    let p = err_from_is_err_and c.from_residual.result c.from_residual.ensures.1 in
    rw (p.1, p.2) (memory_out _ _ _ c.args.key c.args.edition c.args.search c.args.task _)

pub returns-in-Some-clause-planned : goal.returns-in-Some-clause-planned
returns-in-Some-clause-planned g c = c.install.ensures.planned c.args.search c.args.task (rw c.in-Some.is at c.in_ok-plan.ensures)

pub returns-in-None-clause-planned : goal.returns-in-None-clause-planned
returns-in-None-clause-planned g c =
    no_plan _ _ _ c.args.key c.args.edition c.args.search c.args.task _ _ _ (rw c.in-None.is at c.in_ok-plan.ensures) c.text.ensures
