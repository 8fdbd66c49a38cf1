use Rattle.std.proofs.Common.{refl, []}
use Rattle.flight_history.proofs.HistoryLemmas.{begins}
use Rattle.flight_history.proofs.AloneLemmas.{alone, reply-alone}
use Rattle.flight_history.proofs.laws.history_laws.Goals as goal

pub returns-clause-first : goal.returns-clause-first
returns-clause-first c = begins

pub returns-clause-alone : goal.returns-clause-alone
returns-clause-alone c fleet opening key history judged = alone fleet opening key [] history [] refl judged

pub returns-clause-replies : goal.returns-clause-replies
returns-clause-replies c = reply-alone
