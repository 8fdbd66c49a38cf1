use Rattle.std.proofs.Common.{◌∙◌}
use Rattle.loadctl.proofs.ExecuteLemmas.{doors-of}
use Rattle.loadctl.proofs.execute.made_for.Goals as goal

pub returns-clause-doors : goal.returns-clause-doors
returns-clause-doors g c = doors-of _ _ _ _ _ _ c.in_ok-needed.ensures c.in_ok-doors.ensures.many c.in_ok-doors.ensures.ports

pub returns-clause-number : goal.returns-clause-number
returns-clause-number g c n p names asked = c.in_ok-doors.ensures.number ∙ (c.in_ok-needed.ensures.desks n p names asked).0
