use Rattle.std.proofs.Common.{◌<◌, length}
use Rattle.assignment_draft.specs.Drafts.{AreSeated}
use Rattle.assignment_draft.proofs.seats.Seats.shift.Given as goal

abbrev pub invariant-loop : goal.invariant-loop
invariant-loop l = record {
  seated : AreSeated (length l.fn.self.stands.items) l.self;
  hole : l.hole < 64;
}
