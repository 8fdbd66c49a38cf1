use Rattle.std.proofs.Common.{inr}
use Rattle.std.proofs.lemmas.Result.{err_from_is_err_and}
use Rattle.text_lines.specs.Lines.IsStopped.{at_line}
use Rattle.text_lines.proofs.SectionLemmas.{stopped_early}
use Rattle.text_lines.specs.Sections.{IsOfKind}
use Rattle.text_lines.proofs.parts.next_said.Goals as goal

pub returns-in_err-line-clause-refused : goal.returns-in_err-line-clause-refused
returns-in_err-line-clause-refused g c =
    let p = err_from_is_err_and c.from_residual.result c.from_residual.ensures.1 in
    rw (p.1, p.2) (inr (stopped_early c.args.lines.now.rest.now c.args.lines.now.number (IsOfKind (g.R.LineReader.text c.args.reader.now) (g.R.LineReader.spelled c.args.reader.now)) c.in_err-line.field-0.0 c.in_err-line.ensures.none))

pub returns-in-None-clause-refused : goal.returns-in-None-clause-refused
returns-in-None-clause-refused g c =
    let none = rw c.in-None.is at c.in_ok-said.ensures.none in
    inr (at_line c.in_ok-line.line.now c.next_line.new.self.rest.now c.in_ok-line.ensures.found.0 c.in_ok-line.ensures.found.1 (λ k. none k.0 k.1 k.2))
