use Rattle.reply_laws.proofs.AgreeLemmas.{one-judgement}
use Rattle.reply_laws.proofs.VerdictLemmas.{verdict-once}
use Rattle.reply_laws.proofs.laws.verdict_laws.Goals as goal

pub returns-clause-one : goal.returns-clause-one
returns-clause-one c = verdict-once

pub returns-clause-judgement : goal.returns-clause-judgement
returns-clause-judgement c = one-judgement
