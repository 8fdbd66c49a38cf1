use Rattle.std.proofs.Common.{◌≡◌, length}
use Rattle.stop_trim.specs.Sectors.{AreTasksAt}
use Rattle.stop_trim.proofs.tasks.tasks_of.Given as goal

-- the tasks of the sectors so far
abbrev pub invariant-loop-place : goal.invariant-loop-place
invariant-loop-place l = record {
  so_far : length l.tasks.items ≡ l.place;
  each : AreTasksAt l.a l.sectors l.tasks.items;
}
