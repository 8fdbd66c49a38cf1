use Rattle.std.proofs.Common.{arith}
use Rattle.flight_row.proofs.single_lines.read_dry.Goals as goal

pub returns-in_err-mass-clause-none : goal.returns-in_err-mass-clause-none
returns-in_err-mass-clause-none c =
    rw c.from_residual.ensures (λ x s e.
    c.in_err-mass.ensures.none (x.mass.0, (x.index, (x.cockpit, x.attendants))) ((s.some, s.mass), (s.at, (((omega arith), s.cockpit), ((omega arith), s.attendants)))) e)
