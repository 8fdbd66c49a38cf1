use Rattle.std.proofs.lemmas.List.Sorted.{IsPermutation-map}
use Rattle.path_search.specs.Keys.{key_of_entry}
use Rattle.path_search.proofs.queue.Queue.add.Goals as goal
use Rattle.path_search.proofs.queue.Queue.add.Goals.{in-Ok, in-Err}

pub returns-clause-added : goal.returns-clause-added
returns-clause-added c = elim c.match-push.branch [
  | in-Ok w ↦ rw w.result-is (rw (← c.self.view_is) (IsPermutation-map key_of_entry _ _ w.in-Ok.ensures.permutation))
  | in-Err w ↦ rw w.result-is tt
]
