use Rattle.task_answers.proofs.BestLemmas.{answered-plan}
use Rattle.desk_service.proofs.searches.find_by_trees.Goals as goal

pub new-requires : goal.new-requires
new-requires g c = record { best = answered-plan _ _ _ _ (rw c.in-Some.is at c.in_ok-text.ensures) }
