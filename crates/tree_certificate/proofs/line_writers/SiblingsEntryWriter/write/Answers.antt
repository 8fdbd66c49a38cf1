use Rattle.std.proofs.Common.{◌++◌, ◌∷◌, ◌∙◌, ap, map, arith, codes, refl, ◌≡◌}
use Rattle.mass_units.specs.Spelling.{number_text}
use Rattle.hold_limits.specs.Layout.{name_at}
use Rattle.text_lines.specs.Lines.{text_of}
use Rattle.tree_certificate.specs.Listed.{listed_sibling}
use Rattle.tree_certificate.specs.TreeText.{operation_line}
use Rattle.tree_certificate.proofs.WriterSteps.{sibling_built}
use Rattle.tree_certificate.proofs.line_writers.SiblingsEntryWriter.write.Goals as goal

pub returns-clause-added : goal.returns-clause-added
returns-clause-added c =
    let ps = c.args.self.now.0.now.positions in
    let x = listed_sibling c.args.sibling.now in
    let same : c.from.result ≡ x.rank = omega arith in
    sibling_built ps x c.args.out.now c.push_numbered.new.out c.word.new.self c.end_line.new.self c.write_lines.new.out (codes "least" ++ 32 ∷ number_text x.rank) (name_at ps x.position)
    (c.in_ok-push_numbered.ensures ∙ ap (λ n. c.args.out.now ++ (codes "least" ++ 32 ∷ number_text n)) same)
    (c.in_ok-word.ensures.added ∙ ap (λ name. c.push_numbered.new.out ++ 32 ∷ name) c.name_at.ensures) c.in_ok-end_line.ensures.added
    (c.in_ok-write_lines.ensures.added ∙ ap (λ operations. c.end_line.new.self ++ text_of (map (operation_line ps) operations)) c.as_slice.ensures.value) refl
