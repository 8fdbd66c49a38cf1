use Rattle.std.proofs.Common.{◌≡◌, ◌++◌, ◌∷◌, ◌∙◌, ap, arith, codes, refl}
use Rattle.std.proofs.lemmas.Result.{IfOk-equal}
use Rattle.mass_units.specs.Spelling.{number_text}
use Rattle.tree_certificate.proofs.WriterSteps.{three}
use Rattle.tree_certificate.proofs.line_writers.push_numbered.Goals as goal

pub returns : goal.returns
returns c =
    let same : c.from.result ≡ c.args.number = omega arith in
    IfOk-equal c.count.result c.count.new.self (c.text-2.new.self ++ number_text c.from.result) _ c.count.ensures.added
    (three c.args.out.now c.args.word.now (codes " ") (number_text c.from.result) c.text.new.self c.text-2.new.self _ c.in_ok-text.ensures.added c.in_ok-text-2.ensures.added refl
    ∙ ap (λ n. c.args.out.now ++ (c.args.word.now ++ 32 ∷ number_text n)) same)
