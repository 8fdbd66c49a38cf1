use Rattle.std.proofs.lemmas.List.Sorted.{IsPermutation-map}
use Rattle.path_search.specs.Keys.{key_of_entry}
use Rattle.path_search.proofs.QueueLemmas.{least-key}
use Rattle.path_search.proofs.queue.Queue.take_least.Goals as goal

pub returns-clause-taken : goal.returns-clause-taken
returns-clause-taken c = rw (← c.self.view_is) (IsPermutation-map key_of_entry _ _ c.in_ok-waiting.ensures.permutation)

pub returns-clause-least : goal.returns-clause-least
returns-clause-least c = least-key c.in_ok-waiting.field-0 _ (c.in_ok-waiting.ensures.below_top c.self.invariant)
