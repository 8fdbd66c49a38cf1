use Rattle.std.proofs.Common.{◌++◌, ◌∷◌, [], map, List, ℕ, Bool, Option, ap, ◌∙◌}
use Rattle.std.proofs.lemmas.Result.{on_ok_weaker}
use Rattle.hold_parts.specs.declared.parts.Lateral.{Lateral}
use Rattle.text_lines.specs.Lines.{text_of}
use Rattle.aircraft_text.specs.AircraftText.{side_line, lateral_line, lateral_lines}
use Rattle.aircraft_text.proofs.LineLemmas.{lines_of_2}
use Rattle.aircraft_text.proofs.hold_lines.push_lateral.Goals as goal

pub returns : goal.returns
returns c =
    let ps = c.args.hold.now.positions in
    let old = c.args.out.now in
    let lateral = c.in-Some.lateral.now in
    on_ok_weaker c.push_line.result
    (λ last. lines_of_2 old (map (side_line ps) lateral.sides) (lateral_line lateral.most.0 ∷ []) c.write_lines.new.out c.push_line.new.out
    (c.in_ok-write_lines.ensures.added ∙ ap (λ (sides : List (ℕ × Bool)). old ++ text_of (map (side_line ps) sides)) c.as_slice.ensures) last
    ∙ ap (λ (l : Option Lateral). old ++ text_of (lateral_lines ps l)) c.in-Some.ensures.value)
    c.push_line.ensures
