use Rattle.std.proofs.lemmas.Result.{err_from_is_err_and}
use Rattle.std.proofs.Common.{◌≡◌}
use Rattle.text_lines.specs.Lines.IsStopped.{at_line}
use Rattle.text_lines.proofs.SectionLemmas.{stopped_early}
use Rattle.text_lines.proofs.NameLemmas.{differ}
use Rattle.text_lines.proofs.lines.expect_line.Goals as goal

pub returns-in_err-next_line-clause-refused : goal.returns-in_err-next_line-clause-refused
returns-in_err-next_line-clause-refused c =
    let p = err_from_is_err_and c.from_residual.result c.from_residual.ensures.1 in
    rw (p.1, p.2) (stopped_early c.args.lines.now.rest.now c.args.lines.now.number (λ line. line ≡ c.args.expected.now) c.in_err-next_line.field-0.0 c.in_err-next_line.ensures.none)

pub returns-then-ne-clause-refused : goal.returns-then-ne-clause-refused
returns-then-ne-clause-refused c =
    at_line c.in_ok-next_line.field-0.now c.next_line.new.self.rest.now c.in_ok-next_line.ensures.found.0 c.in_ok-next_line.ensures.found.1 (differ c.in_ok-next_line.field-0.now c.args.expected.now c.ne.result c.if-ne.true c.ne.ensures)
