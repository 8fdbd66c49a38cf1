use Rattle.std.proofs.Common.{◌∙◌, ◌++◌, map, ap}
use Rattle.text_lines.specs.Lines.{text_of}
use Rattle.flight_row.specs.RowText.{zone_line, container_line, loose_line}
use Rattle.flight_row.proofs.RowWriterLemmas.{base_written}
use Rattle.flight_row.proofs.row_lines.push_base.Goals as goal

pub returns-clause-lines : goal.returns-clause-lines
returns-clause-lines c =
    base_written c.args.base.now c.args.text.now c.push_dry.new.text c.push_fuel.new.text c.push_limits.new.text c.write_lines.new.out c.write_lines-2.new.out c.write_lines-3.new.out
    c.in_ok-push_dry.ensures c.in_ok-push_fuel.ensures c.in_ok-push_limits.ensures
    (c.in_ok-write_lines.ensures.added ∙ ap (λ xs. c.push_limits.new.text ++ text_of (map zone_line xs)) c.as_slice.ensures)
    (c.in_ok-write_lines-2.ensures.added ∙ ap (λ xs. c.write_lines.new.out ++ text_of (map container_line xs)) c.as_slice-2.ensures)
    (c.in_ok-write_lines-3.ensures.added ∙ ap (λ xs. c.write_lines-2.new.out ++ text_of (map loose_line xs)) c.as_slice-3.ensures)
