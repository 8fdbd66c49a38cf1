use Rattle.assignment_draft.specs.Drafts.{AreSeated}
use Rattle.assignment_draft.proofs.seats.Seats.new.Given as goal

abbrev pub invariant-loop : goal.invariant-loop
invariant-loop l = AreSeated l.counter l.seats
