use Rattle.stop_text.proofs.line_readers.read_leave.Goals as goal

pub returns-in_err-id-clause-none : goal.returns-in_err-id-clause-none
returns-in_err-id-clause-none c = rw c.from_residual.ensures (λ leave s e. c.in_err-id.ensures.none (leave.id, leave.sector) (s.id, (s.least, s.most)) e)
