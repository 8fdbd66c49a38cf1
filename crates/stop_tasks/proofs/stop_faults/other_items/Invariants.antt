use Rattle.stop_tasks.specs.StopFaults.{AtEach, HasItemsAboard}
use Rattle.stop_tasks.proofs.stop_faults.other_items.Given as goal

abbrev pub invariant-loop-place : goal.invariant-loop-place
invariant-loop-place l = AtEach (HasItemsAboard l.sectors l.leaves) l.place
