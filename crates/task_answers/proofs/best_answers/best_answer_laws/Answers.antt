use Rattle.task_answers.proofs.BestLemmas.{answered-plan, answered-none}
use Rattle.task_answers.proofs.best_answers.best_answer_laws.Goals as goal

pub returns : goal.returns
returns c = record { plan = answered-plan; none = answered-none }
