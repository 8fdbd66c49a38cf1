use Rattle.reply_laws.proofs.AgreeLemmas.{same-verdicts}
use Rattle.reply_laws.proofs.ReplyLemmas.{reply-once, same-replies}
use Rattle.reply_laws.proofs.laws.reply_laws.Goals as goal

pub returns-clause-one : goal.returns-clause-one
returns-clause-one c fleet s act outcome verdict reply other lawful mass = reply-once fleet s act outcome verdict lawful mass reply other

pub returns-clause-verdicts : goal.returns-clause-verdicts
returns-clause-verdicts c = same-verdicts

pub returns-clause-replies : goal.returns-clause-replies
returns-clause-replies c = same-replies
