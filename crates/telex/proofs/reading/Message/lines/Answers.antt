use Rattle.std.proofs.Common.{arith}
use Rattle.telex.proofs.LineLaws.{length-lines_from, AreLinesOf-only, AreLinesOf-lines_of, lines_of-short, lines_of-printable}
use Rattle.telex.proofs.reading.Message.lines.Goals as goal

pub returns-clause-cut : goal.returns-clause-cut
returns-clause-cut c = rw (← c.self.view_is) (AreLinesOf-lines_of c.self.inside.text.now c.self.invariant.ended)

pub returns-clause-short : goal.returns-clause-short
returns-clause-short c = lines_of-short c.self.inside.text.now c.self.invariant

pub returns-clause-printable : goal.returns-clause-printable
returns-clause-printable c = lines_of-printable c.self.inside.text.now c.self.invariant

pub returns-clause-only : goal.returns-clause-only
returns-clause-only c = λ others h. AreLinesOf-only c.self.inside.text.now others (rw (c.self.view_is) h)

pub returns-clause-few : goal.returns-clause-few
returns-clause-few c = omega (arith, length-lines_from 0 c.self.inside.text.now)
