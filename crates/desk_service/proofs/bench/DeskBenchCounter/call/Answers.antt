use Rattle.desk_service.proofs.Shared.{answered_calls}
use Rattle.desk_service.proofs.bench.DeskBenchCounter.call.Goals as goal

pub returns-clause-answered : goal.returns-clause-answered
returns-clause-answered g c = answered_calls _ _ _ _ _ _ c.call.ensures.answered
