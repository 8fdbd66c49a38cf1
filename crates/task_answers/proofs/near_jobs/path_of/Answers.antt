use Rattle.task_answers.proofs.JobLemmas.{best-path}
use Rattle.task_answers.proofs.near_jobs.path_of.Goals as goal

pub returns-in-Best : goal.returns-in-Best
returns-in-Best c = λ t budget to. rw c.in-Best.is (best-path t budget c.in-Best.proven _ _ c.copy_of.ensures c.path.ensures.value (rw c.in-Best.is at to))
