use Rattle.std.proofs.lemmas.Result.{on_ok_weaker}
use Rattle.flight_row.proofs.RowWriterLemmas.{head_written}
use Rattle.flight_row.proofs.row_lines.push_head.Goals as goal

pub returns-clause-lines : goal.returns-clause-lines
returns-clause-lines c =
    let s = c.args.s.now in
    on_ok_weaker c.push_numbered-2.result
    (λ last. head_written s.leg s.edition s.stage s.releases c.args.text.now c.text.new.self c.end_line.new.self c.push_leg.new.text c.push_numbered.new.text c.push_stage.new.text c.push_numbered-2.new.text
    c.in_ok-text.ensures.added c.in_ok-end_line.ensures.added c.in_ok-push_leg.ensures.line c.in_ok-push_numbered.ensures c.in_ok-push_stage.ensures last)
    c.push_numbered-2.ensures
