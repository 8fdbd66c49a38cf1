use Rattle.std.proofs.Common.{arith}
use Rattle.flight_row.proofs.section_lines.read_load.Goals as goal

pub returns-in_err-position-clause-none : goal.returns-in_err-position-clause-none
returns-in_err-position-clause-none c =
    rw c.from_residual.ensures (λ x s e. c.in_err-position.ensures.none (x.position, (x.mass.0, x.pieces)) (s.name, (((omega arith), s.within.0), ((omega arith), s.within.1))) e)
