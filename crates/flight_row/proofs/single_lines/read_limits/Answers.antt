use Rattle.std.proofs.Common.{arith}
use Rattle.flight_row.proofs.single_lines.read_limits.Goals as goal

pub returns-in_err-take_off-clause-none : goal.returns-in_err-take_off-clause-none
returns-in_err-take_off-clause-none c =
    rw c.from_residual.ensures (λ x s e. c.in_err-take_off.ensures.none (x.take_off.0, x.landing.0) (((omega arith), s.take_off), ((omega arith), s.landing)) e)
