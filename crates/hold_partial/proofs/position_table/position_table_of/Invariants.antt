use Rattle.std.proofs.Common.{◌≡◌, ℕ, ◌<◌, length, slice_index_or}
use Rattle.hold_partial.specs.declared.position_table.PositionEntry.{PositionEntry}
use Rattle.hold_partial.specs.Tables.{IsPositionEntry}
use Rattle.hold_partial.proofs.position_table.position_table_of.Given as goal

abbrev pub invariant-loop-number : goal.invariant-loop-number
invariant-loop-number l = record {
  count : length l.entries.items ≡ l.number;
  each : (k : ℕ) (d : PositionEntry) → k < l.number → IsPositionEntry l.hold l.ranks k (slice_index_or l.entries.items k d);
}
