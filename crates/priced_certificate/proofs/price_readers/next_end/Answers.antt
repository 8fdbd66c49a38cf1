use Rattle.std.proofs.lemmas.Result.{err_from_is_err_and}
use Rattle.text_lines.proofs.SectionLemmas.{stopped_early, stopped_at_line}
use Rattle.priced_certificate.specs.Reading.{IsEndLine}
use Rattle.priced_certificate.proofs.price_readers.next_end.Goals as goal

pub returns-in_err-next_line-clause-refused : goal.returns-in_err-next_line-clause-refused
returns-in_err-next_line-clause-refused c =
    let p = err_from_is_err_and c.from_residual.result c.from_residual.ensures.1 in
    rw (p.1, p.2) (stopped_early c.args.lines.now.rest.now c.args.lines.now.number (IsEndLine c.args.word.now) c.in_err-next_line.field-0.0 c.in_err-next_line.ensures.none)

pub returns-clause-refused : goal.returns-clause-refused
returns-clause-refused c =
    rw c.ok_or.ensures.value
    (stopped_at_line c.args.lines.now.rest.now c.args.lines.now.number (IsEndLine c.args.word.now) c.in_ok-next_line.field-0.now c.next_line.new.self.rest.now c.read_end.result
    c.in_ok-next_line.ensures.found.0 c.in_ok-next_line.ensures.found.1 c.read_end.ensures.none)
