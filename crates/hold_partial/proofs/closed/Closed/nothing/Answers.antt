use Rattle.std.proofs.Common.{refl}
use Rattle.hold_partial.proofs.ClosedLemmas.{none-in}
use Rattle.hold_partial.proofs.closed.Closed.nothing.Goals as goal

pub returns : goal.returns
returns c = λ class r d within. none-in _ 60 c.empty.result refl c.empty.ensures class r d within
