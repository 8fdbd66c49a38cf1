use Rattle.std.proofs.Common.{◌≡◌, ℕ, ◌<◌, slice_index, length}
use Rattle.hold_partial.specs.Limits.{limit_most}
use Rattle.hold_partial.proofs.limit_table.allowed_masses.Given as goal

abbrev pub invariant-loop-place : goal.invariant-loop-place
invariant-loop-place l = record {
  long : length l.masses ≡ 192;
  right : (j : ℕ) → j < l.place → slice_index l.masses j ≡ limit_most l.hold j;
}
