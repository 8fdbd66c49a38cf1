use Rattle.assignment_draft.specs.Drafts.{AreMoved}
use Rattle.assignment_draft.proofs.draft.raise_free.Given as goal

abbrev pub invariant-loop-position : goal.invariant-loop-position
invariant-loop-position l = AreMoved l.fn.prices l.prices
