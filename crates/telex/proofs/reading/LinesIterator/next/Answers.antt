use Rattle.std.proofs.Common.{◌+◌, ◌∷◌, take, sym, ap, ◌∙◌, arith, length}
use Rattle.std.proofs.lemmas.List.{take_rest}
use Rattle.telex.specs.Lines.{lines_from}
use Rattle.telex.proofs.LineLaws.{lines_from-none, lines_from-some}
use Rattle.telex.proofs.reading.LinesIterator.next.Goals as goal

pub returns-in_err-end-clause-steps : goal.returns-in_err-end-clause-steps
returns-in_err-end-clause-steps c =
    let none = sym c.self.view_is ∙ lines_from-none c.self.inside.at c.self.inside.rest.now (sym c.line_end.ensures ∙ c.in_err-end.was) in
    rw c.from_residual.ensures (none, none)

pub returns-clause-steps : goal.returns-clause-steps
returns-clause-steps c =
    let rest = c.self.inside.rest.now in
    let at = c.self.inside.at in
    let end = c.in_ok-end.end in
    sym c.self.view_is ∙ lines_from-some at end rest (sym c.line_end.ensures ∙ c.in_ok-end.was)
    ∙ ap (λ left. record { text = take end rest; at = at } ∷ lines_from (at + end + 1) left) (sym (take_rest rest (end + 1)))

pub returns-clause-goes : goal.returns-clause-goes
returns-clause-goes c = record {
  on = λ _. (tt, tt, omega (arith, ap length (returns-clause-steps c)));
  keeps = tt;
  rests = λ _. tt;
}
