use Rattle.std.proofs.Common.{◌≡◌, ℕ, ◌<◌, true, false, length}
use Rattle.std.specs.Prelude.{IfSome, ◌≤ℤ◌}
use Rattle.position_set.specs.Sets.{has, members}
use Rattle.assignment.specs.Tables.{IsWithin}
use Rattle.assignment_draft.specs.Trees.{AreBelow, gap_at, gap_span}
use Rattle.assignment_draft.proofs.search.Tree.nearest.Given as goal

abbrev pub invariant-loop-other : goal.invariant-loop-other
invariant-loop-other l = record {
  ahead_too : (q : ℕ) → has l.rest q ≡ true → has l.self.ahead q ≡ true;
  known : (count : ℕ) → AreBelow count l.self.ahead → IfSome l.position (λ position. position < count);
  near : IsWithin gap_span l.gap;
  limit : l.gap ≤ℤ l.self.limit;
  least : (q : ℕ) → has l.self.ahead q ≡ true → has l.rest q ≡ false → l.gap ≤ℤ gap_at l.self.gaps q;
}

abbrev pub decreases-loop-other : goal.decreases-loop-other
decreases-loop-other l = length (members l.rest)
