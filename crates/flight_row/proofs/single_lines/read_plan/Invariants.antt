use Rattle.std.proofs.Common.{length}
use Rattle.flight_row.proofs.PlanLineLemmas.{AreNamesSoFar}
use Rattle.flight_row.proofs.single_lines.read_plan.Given as goal

abbrev pub invariant-loop-words : goal.invariant-loop-words
invariant-loop-words l = AreNamesSoFar l.line l.names.items l.words

abbrev pub decreases-loop-words : goal.decreases-loop-words
decreases-loop-words l = length l.words
