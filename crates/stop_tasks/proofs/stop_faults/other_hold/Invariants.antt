use Rattle.stop_tasks.specs.StopFaults.{AtEach, HasSameHold}
use Rattle.stop_tasks.proofs.stop_faults.other_hold.Given as goal

abbrev pub invariant-loop-place : goal.invariant-loop-place
invariant-loop-place l = AtEach (HasSameHold l.sectors) l.place
