use Rattle.std.proofs.Common.{◌≡◌, ◌<◌, nat_lt, nat_le, ℕ, length, slice_index_or}
use Rattle.position_set.specs.declared.set.PositionSet.{PositionSet}
use Rattle.position_set.specs.Sets.{has}
use Rattle.hold_choices.proofs.conflicts.up_to_each.Given as goal

abbrev pub invariant-loop-number : goal.invariant-loop-number
invariant-loop-number l = record {
  long : length l.up_to ≡ 64;
  numbers : (p : ℕ) → has l.numbers p ≡ nat_lt p l.number;
  each : (q : ℕ) (d : PositionSet) → q < l.number → (p : ℕ) → has (slice_index_or l.up_to q d) p ≡ nat_le p q;
}
