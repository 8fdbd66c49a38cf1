use Rattle.std.proofs.Common.{◌≡◌, ◌+◌, ◌-◌, ◌<◌, ℕ, length, Some}
use Rattle.std.specs.Prelude.{slice_get, slice_index_or}
use Rattle.hold_parts.specs.declared.parts.Item.{Item}
use Rattle.hold_limits.specs.BranchOrder.{ordered}
use Rattle.assignment.specs.declared.candidate.Candidate.{Candidate}
use Rattle.tight_reach.specs.Candidates.{IsCandidate}
use Rattle.tight_reach.proofs.candidates.candidates_of.Given as goal

abbrev pub invariant-loop-rank : goal.invariant-loop-rank
invariant-loop-rank l = record {
  count : length l.candidates.items ≡ l.rank - length l.partial.prefix;
  each : (k : ℕ) (d : Candidate) → k < l.rank - length l.partial.prefix → (item : Item) → slice_get (ordered l.partial.task.items) (length l.partial.prefix + k) ≡ Some item
      → IsCandidate l.partial.task l.partial.prefix item (slice_index_or l.candidates.items k d);
}
