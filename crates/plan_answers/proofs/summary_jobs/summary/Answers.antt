use Rattle.plan_answers.proofs.JobLemmas.{is-summary}
use Rattle.plan_answers.proofs.summary_jobs.summary.Goals as goal

pub returns : goal.returns
returns g c =
    rw c.summary_outcome.ensures
    (is-summary c.args.number c.in_ok-task.task c.in_ok-answer.answer _ c.in_ok-task.ensures
    c.in_ok-answer.ensures c.has_good_evidence.ensures c.in_ok-summary_text.ensures)
