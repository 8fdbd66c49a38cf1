use Rattle.std.proofs.Common.{◌≡◌, ℕ, ◌<◌, ◌≤◌, Some, get_or}
use Rattle.std.specs.Prelude.{slice_get}
use Rattle.stop_tasks.proofs.paths.keeps_way_out.Given as goal

abbrev pub invariant-loop-rank : goal.invariant-loop-rank
invariant-loop-rank l = (i : ℕ) → i < l.rank → (j : ℕ) → slice_get l.prefix i ≡ Some l.pair.0 → slice_get l.prefix j ≡ Some l.pair.1
    → get_or l.last i 0 ≤ get_or l.last j 0
