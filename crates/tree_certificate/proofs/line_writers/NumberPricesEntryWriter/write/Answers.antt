use Rattle.std.proofs.Common.{◌≡◌, ◌++◌, ◌∷◌, ◌∙◌, ap, arith, codes}
use Rattle.mass_units.specs.Spelling.{number_text}
use Rattle.tree_certificate.proofs.WriterSteps.{two, three}
use Rattle.tree_certificate.proofs.line_writers.NumberPricesEntryWriter.write.Goals as goal

pub returns-clause-added : goal.returns-clause-added
returns-clause-added c =
    let p = c.args.price.now in
    let same : c.from.result ≡ p.of = omega arith in
    two c.args.out.now (codes " ") (number_text p.of ++ 32 ∷ number_text p.price) c.text.new.self c.count-2.new.self c.in_ok-text.ensures.added
    (three c.text.new.self (number_text p.of) (codes " ") (number_text p.price) c.count.new.self c.text-2.new.self c.count-2.new.self
    (c.in_ok-count.ensures.added ∙ ap (λ n. c.text.new.self ++ number_text n) same) c.in_ok-text-2.ensures.added c.in_ok-count-2.ensures.added)
