use Rattle.std.proofs.Common.{◌+◌, ◌++◌, ◌∷◌, [], codes, ◌∙◌, ap}
use Rattle.std.proofs.lemmas.Result.{on_ok_weaker}
use Rattle.text_lines.specs.Lines.{text_of}
use Rattle.loadsheet_text.specs.SheetText.{number_line}
use Rattle.loadsheet_text.proofs.SheetLemmas.{lines_of_4}
use Rattle.loadsheet_text.proofs.sheet.push_load.Goals as goal

pub returns : goal.returns
returns c =
    let s = c.args.s.now in
    let loose = c.push_mass-3.new.out in
    on_ok_weaker c.push_number.result
    (λ last. lines_of_4 c.args.out.now (number_line (codes "CABIN") s.cabin_mass.0 ∷ []) (number_line (codes "CONTAINERS") s.container_mass.0 ∷ []) (number_line (codes "LOOSE") s.loose_mass.0 ∷ [])
    (number_line (codes "TRAFFIC LOAD") (s.cabin_mass.0 + s.container_mass.0 + s.loose_mass.0) ∷ [])
    c.push_mass.new.out c.push_mass-2.new.out loose c.push_number.new.out
    c.in_ok-push_mass.ensures c.in_ok-push_mass-2.ensures c.in_ok-push_mass-3.ensures
    (last ∙ ap (λ n. loose ++ text_of (number_line (codes "TRAFFIC LOAD") n ∷ [])) c.traffic_load.ensures))
    c.push_number.ensures
