use Rattle.std.proofs.Common.{◌+◌, ◌∷◌, take, get_or, sym, ap, ◌∙◌, arith, length}
use Rattle.std.proofs.lemmas.List.{take_rest}
use Rattle.telex.specs.Parts.{parts_from, parts_left}
use Rattle.telex.proofs.PartLaws.{parts_from-none, parts_from-some}
use Rattle.telex.proofs.reading.ElementsIterator.next.Goals as goal

pub returns-in-Some-clause-steps : goal.returns-in-Some-clause-steps
returns-in-Some-clause-steps c =
    let rest = c.in_ok-rest.rest.now in
    let before = c.self.inside.before in
    let at = c.self.inside.at in
    let end = c.in-Some.end in
    sym c.self.view_is ∙ ap (parts_left before at) c.in_ok-rest.was
    ∙ parts_from-some before at end rest (sym c.part_end.ensures ∙ c.in-Some.is)
    ∙ ap (λ left. record { before = before; text = take end rest; at = at } ∷ parts_from (get_or rest end 0) (at + end + 1) left) (sym (take_rest rest (end + 1)))

pub returns-in-Some-clause-goes : goal.returns-in-Some-clause-goes
returns-in-Some-clause-goes c = record {
  on = λ _. (tt, tt, omega (arith, ap length (returns-in-Some-clause-steps c)));
  keeps = tt;
  rests = λ _. tt;
}

pub returns-in-None-clause-steps : goal.returns-in-None-clause-steps
returns-in-None-clause-steps c =
    sym c.self.view_is ∙ ap (parts_left c.self.inside.before c.self.inside.at) c.in_ok-rest.was
    ∙ parts_from-none c.self.inside.before c.self.inside.at c.in_ok-rest.rest.now (sym c.part_end.ensures ∙ c.in-None.is)

pub returns-in-None-clause-goes : goal.returns-in-None-clause-goes
returns-in-None-clause-goes c = record {
  on = λ _. (tt, tt, omega (arith, ap length (returns-in-None-clause-steps c)));
  keeps = tt;
  rests = λ _. tt;
}
