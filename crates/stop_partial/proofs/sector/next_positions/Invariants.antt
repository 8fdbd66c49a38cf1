use Rattle.std.proofs.Common.{◌≡◌}
use Rattle.stop_partial.proofs.NextLemmas.{AreNextBelow}
use Rattle.stop_partial.proofs.sector.next_positions.Given as goal

abbrev pub invariant-loop-number : goal.invariant-loop-number
invariant-loop-number l = record {
  same : l.partial ≡ l.fn.partial;
  below : AreNextBelow l.fn.partial.task l.fn.partial.prefix l.number l.fitting l.moments;
}
