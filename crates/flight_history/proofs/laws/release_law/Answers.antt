use Rattle.flight_history.proofs.ReleaseLemmas.{release-exactly}
use Rattle.flight_history.proofs.laws.release_law.Goals as goal

pub returns : goal.returns
returns c = release-exactly
