use Rattle.problem_text.proofs.limit_readers.read_cumulative.Goals as goal

pub returns-in_err-forward-clause-none : goal.returns-in_err-forward-clause-none
returns-in_err-forward-clause-none c =
    rw c.from_residual.ensures (λ limit s e. c.in_err-forward.ensures.none (limit.forward, (limit.place, limit.most)) (tt, (s.place, s.most)) e)

pub returns-clause-found : goal.returns-clause-found
returns-clause-found c =
    let read = c.in_ok-forward.ensures.found in
    record {
      said = record { forward = read.said.0; place = read.said.1.0; most = read.said.1.1 };
      kept = λ i. record { forward = (read.kept i).0; place = (read.kept i).1.0; most = (read.kept i).1.1 };
      right = record { place = read.right.1.0; most = read.right.1.1 };
      is = read.is;
    }
