use Rattle.std.proofs.Common.{◌≡◌, ◌<◌, ◌==◌, ℕ, length, slice_index_or}
use Rattle.position_set.specs.declared.set.PositionSet.{PositionSet}
use Rattle.position_set.specs.Sets.{has}
use Rattle.hold_choices.proofs.conflicts.each_alone.Given as goal

abbrev pub invariant-loop-number : goal.invariant-loop-number
invariant-loop-number l = record {
  long : length l.sets ≡ 64;
  each : (q : ℕ) (d : PositionSet) → q < l.number → (p : ℕ) → has (slice_index_or l.sets q d) p ≡ (p == q);
}
