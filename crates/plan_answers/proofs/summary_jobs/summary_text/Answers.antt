use Rattle.plan_answers.proofs.JobLemmas.{plan-text}
use Rattle.plan_answers.proofs.summary_jobs.summary_text.Goals as goal

pub returns-in-Best : goal.returns-in-Best
returns-in-Best c = rw c.in-Best.is (plan-text c.args.number c.in-Best.proven c.plan_summary.result c.plan_summary.ensures)
