use Rattle.std.proofs.Common.{◌≡◌, ℕ, true, false, length}
use Rattle.position_set.specs.Sets.{has, members}
use Rattle.assignment_draft.specs.Trees.{IsCloser, IsMeasured, IsTree}
use Rattle.assignment_draft.proofs.search.Tree.look_at.Given as goal

abbrev pub invariant-loop-position : goal.invariant-loop-position
invariant-loop-position l = record {
  tree : IsTree l.prices l.self;
  closer : IsCloser l.fn.self l.self;
  rest_too : (position : ℕ) → has l.rest position ≡ true → has l.fn.positions position ≡ true;
  seen : (position : ℕ) → has l.fn.positions position ≡ true → has l.rest position ≡ false → IsMeasured l.prices l.self l.number position;
}

abbrev pub decreases-loop-position : goal.decreases-loop-position
decreases-loop-position l = length (members l.rest)
