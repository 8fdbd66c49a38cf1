use Rattle.std.proofs.Common.{◌||◌, refl, ap₂}
use Rattle.hold_choices.proofs.PassLemmas.{none-in}
use Rattle.hold_choices.proofs.taken.Taken.nothing.Goals as goal

pub returns : goal.returns
returns c = λ class p within. ap₂ ◌||◌ (c.empty.ensures p) (none-in _ 60 c.empty-2.result refl c.empty-2.ensures class p _ within)
