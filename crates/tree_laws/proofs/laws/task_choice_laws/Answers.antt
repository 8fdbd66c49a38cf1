use Rattle.tree_laws.proofs.GreatestLemmas.{full-of_task, fixed-of_task, narrowed-of_task, trimmed-of_task, cut-of_task}
use Rattle.tree_laws.proofs.laws.task_choice_laws.Goals as goal

pub returns : goal.returns
returns c = record {
  full = full-of_task;
  fixed = fixed-of_task;
  narrowed = narrowed-of_task;
  trimmed = trimmed-of_task;
  halved = cut-of_task;
}
