use Rattle.std.proofs.Common.{rules, ◌++◌, ◌∷◌, [], ◌∙◌, ap}
use Rattle.text_lines.specs.Lines.{text_of}
use Rattle.tree_certificate.specs.Listed.{listed_trees}
use Rattle.tree_certificate.specs.TreeText.{price_line, root_line}
use Rattle.tree_certificate.proofs.WriterSteps.{two, lines_of_lists, siblings_run, text_built}
use Rattle.tree_certificate.proofs.writer.push_trees.Goals as goal

pub returns : goal.returns
returns c =
    let ps = c.args.task.now.hold.positions in
    let x = listed_trees c.args.certificate.now in
    let hold = c.hold-hold.ensures.value in
    text_built ps x c.args.out.now c.text.new.self c.push_claim.new.out c.write_lines.new.out c.write_lines-2.new.out c.end_line.new.self c.write_lines-3.new.out c.write_run.new.out c.text-3.new.self
    (search rules) (search rules)
    (rw (c.as_slice.ensures.value, hold) at c.in_ok-write_lines.ensures.added)
    ((rw (c.as_slice-2.ensures.value, hold) at c.in_ok-write_lines-2.ensures.added) ∙ ap (λ lines. c.write_lines.new.out ++ text_of lines) (lines_of_lists (price_line ps) c.args.certificate.now.prices.items))
    (two c.write_lines-2.new.out (root_line x.claim) (10 ∷ []) c.text-2.new.self c.end_line.new.self (c.in_ok-text-2.ensures.added ∙ ap (λ word. c.write_lines-2.new.out ++ word) c.root_word.ensures) c.in_ok-end_line.ensures.added)
    (rw (c.as_slice-3.ensures.value, hold) at c.in_ok-write_lines-3.ensures.added)
    ((rw (c.as_slice-4.ensures.value, hold) at c.in_ok-write_run.ensures) ∙ ap (λ t. c.write_lines-3.new.out ++ t) (siblings_run ps c.args.certificate.now.siblings.items)) c.in_ok-text-3.ensures.added
