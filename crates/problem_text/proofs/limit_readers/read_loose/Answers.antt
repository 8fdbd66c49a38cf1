use Rattle.problem_text.proofs.limit_readers.read_loose.Goals as goal

pub returns-in_err-position-clause-none : goal.returns-in_err-position-clause-none
returns-in_err-position-clause-none c = rw c.from_residual.ensures (λ load s e. c.in_err-position.ensures.none (load.position, load.mass) (s.position, s.mass) e)

pub returns-clause-found : goal.returns-clause-found
returns-clause-found c =
    let read = c.in_ok-position.ensures.found in
    record {
      said = record { position = read.said.0; mass = read.said.1 };
      kept = λ i. record { position = (read.kept i).0; mass = (read.kept i).1 };
      right = record { position = read.right.0; mass = read.right.1 };
      is = read.is;
    }
