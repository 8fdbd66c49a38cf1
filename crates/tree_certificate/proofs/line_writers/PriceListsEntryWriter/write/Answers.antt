use Rattle.std.proofs.Common.{◌++◌, ◌∙◌, ap, codes}
use Rattle.tree_certificate.specs.TreeText.{end_word}
use Rattle.tree_certificate.proofs.PriceLemmas.{names_run, numbers_run}
use Rattle.tree_certificate.proofs.WriterSteps.{six}
use Rattle.tree_certificate.proofs.line_writers.PriceListsEntryWriter.write.Goals as goal

pub returns-clause-added : goal.returns-clause-added
returns-clause-added c =
    let ps = c.args.self.now.0.now.positions in
    let old = c.args.out.now in
    let list = c.args.list.now in
    six old (end_word list.end) (names_run ps list.positions.items) (codes " ;") (numbers_run list.limits.items) (codes " ;") (numbers_run list.cliques.items)
    c.text.new.self c.write_run.new.out c.text-2.new.self c.write_run-2.new.out c.text-3.new.self c.write_run-3.new.out
    (c.in_ok-text.ensures.added ∙ ap (λ word. old ++ word) c.word_of_end.ensures)
    (c.in_ok-write_run.ensures ∙ ap (λ prices. c.text.new.self ++ names_run ps prices) c.as_slice.ensures.value)
    c.in_ok-text-2.ensures.added
    (c.in_ok-write_run-2.ensures ∙ ap (λ prices. c.text-2.new.self ++ numbers_run prices) c.as_slice-2.ensures.value)
    c.in_ok-text-3.ensures.added
    (c.in_ok-write_run-3.ensures ∙ ap (λ prices. c.text-3.new.self ++ numbers_run prices) c.as_slice-3.ensures.value)
