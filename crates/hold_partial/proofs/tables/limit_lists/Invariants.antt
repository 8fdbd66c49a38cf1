use Rattle.std.proofs.Common.{◌≡◌, ℕ, ◌<◌, length, slice_index_or}
use Rattle.arrayvec.specs.ArrayVec.{ArrayVec}
use Rattle.hold_partial.specs.Limits.{limits_on}
use Rattle.hold_partial.proofs.tables.limit_lists.Given as goal

abbrev pub invariant-loop-number : goal.invariant-loop-number
invariant-loop-number l = record {
  count : length l.lists.items ≡ l.number;
  each : (k : ℕ) (d : ArrayVec ℕ) → k < l.number → (slice_index_or l.lists.items k d).items ≡ limits_on l.hold k;
}
