use Rattle.std.proofs.Common.{◌≡◌, ◌<◌, ℕ, ℤ, length}
use Rattle.std.specs.Prelude.{slice_index_or}
use Rattle.hold_limits.specs.Placement.{influence_at}
use Rattle.assignment_prices.specs.Steps.{counted_from}
use Rattle.tight_reach.proofs.candidates.influences_of.Given as goal

abbrev pub invariant-loop-number : goal.invariant-loop-number
invariant-loop-number l = record {
  count : length l.influences.items ≡ l.number;
  each : (q : ℕ) (d : ℤ) → q < l.number → slice_index_or l.influences.items q d ≡ counted_from l.end (influence_at l.hold q);
}
