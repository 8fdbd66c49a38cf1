use Rattle.std.proofs.Common.{◌++◌, ◌∷◌, [], codes, ◌∙◌, ap}
use Rattle.std.proofs.lemmas.Result.{on_ok_weaker}
use Rattle.text_lines.specs.Lines.{text_of}
use Rattle.loadsheet_text.specs.SheetText.{leg_line, number_line, passenger_line}
use Rattle.loadsheet_text.proofs.SheetLemmas.{lines_of_4}
use Rattle.loadsheet_text.proofs.sheet.push_flight.Goals as goal

pub returns : goal.returns
returns c =
    let s = c.args.s.now in
    let led = c.push_leg.new.out in
    let numbered = c.in_ok-push_number.ensures ∙ ap (λ n. led ++ text_of (number_line (codes "EDNO") n ∷ [])) c.from.ensures in
    on_ok_weaker c.push_passengers.result
    (λ last. lines_of_4 c.args.out.now (codes "LOADSHEET" ∷ []) (leg_line s.leg ∷ []) (number_line (codes "EDNO") s.edition ∷ []) (passenger_line s ∷ [])
    c.text.new.self led c.push_number.new.out c.push_passengers.new.out
    c.in_ok-text.ensures.added c.in_ok-push_leg.ensures numbered last)
    c.push_passengers.ensures
