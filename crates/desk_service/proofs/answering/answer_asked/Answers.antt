use Rattle.std.proofs.Common.{refl}
use Rattle.desk_service.proofs.Outcomes.{no_turn}
use Rattle.desk_service.proofs.answering.answer_asked.Goals as goal

pub returns-in-Err-clause-answered : goal.returns-in-Err-clause-answered
returns-in-Err-clause-answered g c = rw c.in-Err.is (no_turn _ _ _ _ c.in-Err.error _ _ refl)
