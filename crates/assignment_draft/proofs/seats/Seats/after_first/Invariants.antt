use Rattle.assignment_draft.specs.Drafts.{AreSeated}
use Rattle.assignment_draft.proofs.seats.Seats.after_first.Given as goal

abbrev pub invariant-loop-number : goal.invariant-loop-number
invariant-loop-number l = AreSeated l.number l.seats
