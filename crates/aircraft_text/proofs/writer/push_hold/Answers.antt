use Rattle.std.proofs.Common.{List, ◌++◌, map, ◌∙◌, ap}
use Rattle.std.proofs.lemmas.Result.{on_ok_weaker}
use Rattle.std.specs.List.{enumerate_from}
use Rattle.hold_parts.specs.declared.parts.Position.{Position}
use Rattle.text_lines.specs.Lines.{text_of}
use Rattle.aircraft_text.specs.AircraftText.{position_line, limit_lines, lateral_lines}
use Rattle.aircraft_text.proofs.LineLemmas.{lines_of_3}
use Rattle.aircraft_text.proofs.writer.push_hold.Goals as goal

pub returns : goal.returns
returns c =
    let hold = c.args.hold.now in
    on_ok_weaker c.push_lateral.result
    (λ last. lines_of_3 c.args.out.now (map position_line (enumerate_from 1 hold.positions)) (limit_lines hold) (lateral_lines hold.positions hold.lateral)
    c.push_positions.new.out c.push_hold_limits.new.out c.push_lateral.new.out
    (c.in_ok-push_positions.ensures ∙ ap (λ (ps : List Position). c.args.out.now ++ text_of (map position_line (enumerate_from 1 ps))) c.positions.ensures.value)
    c.in_ok-push_hold_limits.ensures last)
    c.push_lateral.ensures
