use Rattle.std.proofs.Common.{arith}
use Rattle.telex.specs.Items.{placed_line}
use Rattle.telex.proofs.PartLaws.{ArePartsOf-parts_of, ArePartsOf-only, length-parts_of}
use Rattle.telex.proofs.reading.Line.elements.Goals as goal

pub returns-clause-cut : goal.returns-clause-cut
returns-clause-cut c = ArePartsOf-parts_of (placed_line c.args.self.now)

pub returns-clause-only : goal.returns-clause-only
returns-clause-only c = λ others h. ArePartsOf-only (placed_line c.args.self.now) others h

pub returns-clause-few : goal.returns-clause-few
returns-clause-few c = omega (arith, length-parts_of (placed_line c.args.self.now), c.args.self.now.countable)
