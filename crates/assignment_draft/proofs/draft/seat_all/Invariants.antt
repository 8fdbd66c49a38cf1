use Rattle.std.proofs.Common.{length}
use Rattle.assignment_draft.specs.Drafts.{AreMoved, AreSeated}
use Rattle.assignment_draft.proofs.draft.seat_all.Given as goal

abbrev pub invariant-loop-number : goal.invariant-loop-number
invariant-loop-number l = record {
  moved : AreMoved l.fn.prices l.prices;
  seated : AreSeated (length l.fn.prices.candidates.items) l.seats;
}
