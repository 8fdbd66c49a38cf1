use Rattle.std.proofs.Common.{ℕ, ◌<◌, get_or}
use Rattle.stop_tasks.specs.StopPaths.{KeepsWayOut}
use Rattle.stop_tasks.proofs.paths.is_reachable.Given as goal

abbrev pub invariant-loop-pair : goal.invariant-loop-pair
invariant-loop-pair l = (k : ℕ) → k < l.pair-index → (d : ℕ × ℕ) → KeepsWayOut l.last l.prefix (get_or l.behind k d)
