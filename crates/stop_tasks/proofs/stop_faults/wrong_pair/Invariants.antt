use Rattle.stop_tasks.specs.StopFaults.{AtEach, IsPair}
use Rattle.stop_tasks.proofs.stop_faults.wrong_pair.Given as goal

abbrev pub invariant-loop-place : goal.invariant-loop-place
invariant-loop-place l = AtEach (IsPair l.sectors l.behind) l.place
