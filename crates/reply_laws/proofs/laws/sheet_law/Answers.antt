use Rattle.reply_laws.proofs.SheetLemmas.{sheet-once}
use Rattle.reply_laws.proofs.laws.sheet_law.Goals as goal

pub returns : goal.returns
returns c = sheet-once
