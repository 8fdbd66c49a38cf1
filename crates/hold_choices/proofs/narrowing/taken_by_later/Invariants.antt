use Rattle.std.proofs.Common.{◌≡◌, ◌+◌, ◌<◌, ◌≤◌, ℕ, not, length, map, drop, slice_index_or, Some}
use Rattle.std.specs.Prelude.{slice_get}
use Rattle.std.specs.List.{list_all}
use Rattle.position_set.specs.declared.set.PositionSet.{PositionSet}
use Rattle.position_set.specs.Sets.{has, members}
use Rattle.price_trees.specs.Prices.{Candidate, candidates}
use Rattle.price_trees.specs.Narrowing.{leaves_earlier}
use Rattle.hold_choices.specs.Passing.{leaves_class_earlier, IsTakenBy}
use Rattle.hold_choices.proofs.narrowing.taken_by_later.Given as goal

abbrev pub invariant-loop-rank : goal.invariant-loop-rank
invariant-loop-rank l = record {
  long : length l.by_later ≡ 60;
  taken : IsTakenBy (leaves_class_earlier l.task) (drop l.rank (candidates l.task (map members l.sets))) l.taken;
  each : (k : ℕ) (d : PositionSet) → l.rank ≤ k → (p : ℕ) (c : Candidate) → slice_get (candidates l.task (map members l.sets)) k ≡ Some c → p < 64
      → has (slice_index_or l.by_later k d) p ≡ not (list_all (leaves_earlier l.task.hold c.0 p) (drop (k + 1) (candidates l.task (map members l.sets))));
}
