use Rattle.text_lines.proofs.NameLemmas.{none_if}
use Rattle.text_lines.proofs.PartSteps.{none_at_line, none_at_end}
use Rattle.tree_certificate.specs.TreeText.{least_line, IsSpelledLeast}
use Rattle.tree_certificate.proofs.reader.next_least.Goals as goal

pub returns-in_err-line-clause-none : goal.returns-in_err-line-clause-none
returns-in_err-line-clause-none c =
    let ps = c.args.names.now.positions.now in
    none_if _ _ (none_at_end (least_line ps) (IsSpelledLeast ps) c.args.lines.now c.in_err-line.ensures.none)

pub returns-in_err-read_least-clause-none : goal.returns-in_err-read_least-clause-none
returns-in_err-read_least-clause-none c =
    let ps = c.args.names.now.positions.now in
    none_if _ _ (none_at_line (least_line ps) (IsSpelledLeast ps) c.args.lines.now c.in_ok-line.line.now c.in_ok-line.after.rest.now c.in_ok-line.ensures.found.0 c.in_ok-line.ensures.found.1 c.in_err-read_least.ensures.none)
