use Rattle.std.proofs.Common.{arith}
use Rattle.flight_row.proofs.section_lines.read_zone.Goals as goal

pub returns-in_err-adults-clause-none : goal.returns-in_err-adults-clause-none
returns-in_err-adults-clause-none c =
    rw c.from_residual.ensures (λ x s e. c.in_err-adults.ensures.none (x.adults, (x.children, x.infants)) (((omega arith), s.0), (((omega arith), s.1), ((omega arith), s.2))) e)
