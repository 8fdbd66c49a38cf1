use Rattle.task_answers.proofs.TreeJobLemmas.{best-found, none-found}
use Rattle.task_answers.proofs.tree_jobs.found_by.Goals as goal

pub returns-in-Best : goal.returns-in-Best
returns-in-Best c = rw c.in-Best.is (best-found c.in-Best.proven c.proven_plan.result c.proven_plan.ensures)

pub returns-in-NoneFits : goal.returns-in-NoneFits
returns-in-NoneFits c = rw c.in-NoneFits.is (none-found c.in-NoneFits.no_plan c.proven_none.result c.proven_none.ensures)
