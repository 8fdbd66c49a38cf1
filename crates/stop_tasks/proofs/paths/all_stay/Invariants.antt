use Rattle.std.proofs.Common.{◌≡◌, ℕ, ◌<◌, ◌≤◌, Some, get_or}
use Rattle.std.specs.Prelude.{slice_get}
use Rattle.stop_tasks.proofs.paths.all_stay.Given as goal

abbrev pub invariant-loop-rank : goal.invariant-loop-rank
invariant-loop-rank l = (rank : ℕ) → rank < l.rank → slice_get l.prefix rank ≡ Some l.position → l.number ≤ get_or l.last rank 0
