use Rattle.std.proofs.Common.{arith, ap, sym, ◌∙◌, ◌++◌}
use Rattle.mass_units.proofs.SpellingLemmas.{number_text-decimal}
use Rattle.mass_units.proofs.spelling.write_number.Goals as goal

pub returns-clause-ok : goal.returns-clause-ok
returns-clause-ok c =
    let text = c.as_bytes.ensures.value ∙ c.format.ensures.text ∙ sym (number_text-decimal c.args.n (omega arith)) in
    c.in_ok-extend_from_slice.ensures.items ∙ ap (λ t. c.args.out.now.items ++ t) text
