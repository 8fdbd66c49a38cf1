use Rattle.std.proofs.Common.{◌≡◌, ℕ, ◌+◌, ◌<◌, Some}
use Rattle.std.specs.Prelude.{slice_get}
use Rattle.hold_limits.specs.Problem.{Problem}
use Rattle.hold_limits.specs.Placement.{IsAdmissible}
use Rattle.stop_tasks.specs.StopPaths.{part_of}
use Rattle.stop_tasks.proofs.admissible.are_parts_admissible.Given as goal

abbrev pub invariant-loop-place : goal.invariant-loop-place
invariant-loop-place l = (place : ℕ) → place < l.place → (sector : Problem) → slice_get l.sectors place ≡ Some sector → IsAdmissible sector (part_of l.last (place + 1) l.path)
