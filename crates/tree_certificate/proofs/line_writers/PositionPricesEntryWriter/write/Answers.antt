use Rattle.std.proofs.Common.{◌++◌, ◌∷◌, ◌∙◌, ap, codes}
use Rattle.mass_units.specs.Spelling.{number_text}
use Rattle.hold_limits.specs.Layout.{name_at}
use Rattle.tree_certificate.proofs.WriterSteps.{three}
use Rattle.tree_certificate.proofs.line_writers.PositionPricesEntryWriter.write.Goals as goal

pub returns-clause-added : goal.returns-clause-added
returns-clause-added c =
    let p = c.args.price.now in
    let name = name_at c.args.self.now.0.now.positions p.of in
    three c.args.out.now (32 ∷ name) (codes " ") (number_text p.price) c.word.new.self c.text.new.self c.count.new.self
    (c.in_ok-word.ensures.added ∙ ap (λ word. c.args.out.now ++ 32 ∷ word) c.name_of.ensures) c.in_ok-text.ensures.added c.in_ok-count.ensures.added
