use Rattle.std.proofs.Common.{◌++◌}
use Rattle.std.proofs.lemmas.Result.{err_from_is_err_and}
use Rattle.text_lines.specs.Sections.{IsOfKind}
use Rattle.text_lines.proofs.NameLemmas.{none_then}
use Rattle.text_lines.proofs.SectionLemmas.{stopped_early, stopped_at_line}
use Rattle.text_lines.proofs.fields.next_fields.Goals as goal

pub returns-in_err-next_line-clause-refused : goal.returns-in_err-next_line-clause-refused
returns-in_err-next_line-clause-refused g c =
    let p = err_from_is_err_and c.from_residual.result c.from_residual.ensures.1 in
    rw (p.1, p.2) (stopped_early c.args.lines.now.rest.now c.args.lines.now.number _ c.in_err-next_line.field-0.0 c.in_err-next_line.ensures.none)

pub returns-clause-refused : goal.returns-clause-refused
returns-clause-refused g c =
    let here = c.args.lines.now in
    let text = g.F.FieldReader.text c.args.fields.now in
    rw c.ok_or.ensures.value
    (stopped_at_line here.rest.now here.number (IsOfKind (λ x. c.args.keyword.now ++ text x) (g.F.FieldReader.spelled c.args.fields.now))
    c.in_ok-next_line.field-0.now c.next_line.new.self.rest.now c.read_fields.result c.in_ok-next_line.ensures.found.0 c.in_ok-next_line.ensures.found.1
    (none_then c.read_fields.result (λ none k. none k.0 k.1 k.2) c.read_fields.ensures.none))
