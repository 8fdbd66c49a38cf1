use Rattle.flight_history.proofs.OneHistory.{one-acts, one-count}
use Rattle.flight_history.proofs.VerdictLemmas.{task-laws}
use Rattle.flight_history.proofs.laws.judgement_laws.Goals as goal

pub returns-clause-one : goal.returns-clause-one
returns-clause-one c = one-acts task-laws

pub returns-clause-count : goal.returns-clause-count
returns-clause-count c = one-count task-laws
