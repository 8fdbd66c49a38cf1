use Rattle.std.proofs.Common.{arith}
use Rattle.flight_row.proofs.section_lines.read_container.Goals as goal

pub returns-in_err-id-clause-none : goal.returns-in_err-id-clause-none
returns-in_err-id-clause-none c = rw c.from_residual.ensures (λ x s e. c.in_err-id.ensures.none (x.id, x.mass.0) (s.id, ((omega arith), s.mass)) e)
