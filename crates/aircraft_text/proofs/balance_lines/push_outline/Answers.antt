use Rattle.std.proofs.Common.{List, ◌++◌, map, codes, ◌∙◌, ap}
use Rattle.std.proofs.lemmas.Result.{on_ok_weaker}
use Rattle.envelope.specs.declared.corner.Corner.{Corner}
use Rattle.text_lines.specs.Lines.{text_of}
use Rattle.aircraft_text.specs.AircraftText.{corner_line}
use Rattle.aircraft_text.proofs.LineLemmas.{lines_of_2}
use Rattle.aircraft_text.proofs.balance_lines.push_outline.Goals as goal

pub returns : goal.returns
returns c =
    let outline = c.args.envelope.now in
    let forward = corner_line c.args.chord.now c.args.name.now (codes "forward") in
    let aft = corner_line c.args.chord.now c.args.name.now (codes "aft") in
    on_ok_weaker c.push_side-2.result
    (λ last. lines_of_2 c.args.out.now (map forward outline.forward) (map aft outline.aft) c.push_side.new.out c.push_side-2.new.out
    (c.in_ok-push_side.ensures ∙ ap (λ (corners : List Corner). c.args.out.now ++ text_of (map forward corners)) c.forward.ensures.value)
    (last ∙ ap (λ (corners : List Corner). c.push_side.new.out ++ text_of (map aft corners)) c.aft.ensures.value))
    c.push_side-2.ensures
