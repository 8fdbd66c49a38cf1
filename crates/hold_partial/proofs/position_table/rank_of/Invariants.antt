use Rattle.std.proofs.Common.{◌≢◌, ◌<◌, ℕ, get_or}
use Rattle.hold_partial.specs.Arrangement.{Ranked}
use Rattle.hold_partial.proofs.position_table.rank_of.Given as goal

abbrev pub invariant-loop-rank : goal.invariant-loop-rank
invariant-loop-rank l = (k : ℕ) → k < l.rank → (d : Ranked) → (get_or l.ranks k d).1 ≢ l.number
