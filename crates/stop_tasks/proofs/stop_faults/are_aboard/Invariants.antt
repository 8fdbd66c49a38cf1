use Rattle.std.proofs.Common.{◌≡◌, ◌≤◌, length, drop}
use Rattle.std.specs.Prelude.{◌↔◌}
use Rattle.stop_tasks.specs.Stops.{aboard}
use Rattle.stop_tasks.proofs.stop_faults.are_aboard.Given as goal

-- the containers are those aboard exactly where those that are left are
abbrev pub invariant-loop-place : goal.invariant-loop-place
invariant-loop-place l = record {
  within : l.next ≤ length l.items;
  left : (l.items ≡ aboard l.offer l.leaves l.number) ↔ (drop l.next l.items ≡ aboard (drop l.place l.offer) (drop l.place l.leaves) l.number);
}
