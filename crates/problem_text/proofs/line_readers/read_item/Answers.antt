use Rattle.problem_text.proofs.line_readers.read_item.Goals as goal

pub returns-in_err-id-clause-none : goal.returns-in_err-id-clause-none
returns-in_err-id-clause-none c = rw c.from_residual.ensures (λ item s e. c.in_err-id.ensures.none (item.id, item.mass) (s.id, s.mass) e)
