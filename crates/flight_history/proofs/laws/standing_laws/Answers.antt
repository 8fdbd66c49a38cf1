use Rattle.flight_history.proofs.StandingLemmas.{says, standing_from-push, standing-push}
use Rattle.flight_history.proofs.laws.standing_laws.Goals as goal

pub returns-clause-step : goal.returns-clause-step
returns-clause-step c = standing_from-push

pub returns-clause-after : goal.returns-clause-after
returns-clause-after c = standing-push

pub returns-clause-figures : goal.returns-clause-figures
returns-clause-figures c = says
