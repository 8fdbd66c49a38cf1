use Rattle.std.proofs.Common.{ℕ, List, ◌++◌, ◌∷◌, [], codes, ◌∙◌, ap}
use Rattle.std.proofs.lemmas.Result.{on_ok_weaker}
use Rattle.mass_limits.specs.declared.figures.Limiting.TheVariants.{ZeroFuel, TakeOff, Landing}
use Rattle.text_lines.specs.Lines.{text_of}
use Rattle.loadsheet_text.specs.SheetText.{number_line, limited_line, limit_mark}
use Rattle.loadsheet_text.proofs.SheetLemmas.{lines_of_6}
use Rattle.loadsheet_text.proofs.sheet.push_masses.Goals as goal

pub returns : goal.returns
returns c =
    let s = c.args.s.now in
    let m = s.balance.masses in
    let limiting = s.balance.underload.limiting in
    let zero_fuel : List ℕ → List ℕ = λ mark. limited_line (codes "ZERO FUEL WEIGHT") m.zero_fuel.0 s.max_zero_fuel.0 mark in
    let take_off : List ℕ → List ℕ = λ mark. limited_line (codes "TAKE OFF WEIGHT") m.take_off.0 s.regulated.take_off.0 mark in
    let landing : List ℕ → List ℕ = λ mark. limited_line (codes "LANDING WEIGHT") m.landing.0 s.regulated.landing.0 mark in
    on_ok_weaker c.push_limited-3.result
    (λ last. lines_of_6 c.args.out.now
    (number_line (codes "DRY OPERATING WEIGHT") s.dry.mass.0 ∷ []) (zero_fuel (limit_mark ZeroFuel limiting) ∷ [])
    (number_line (codes "TAKE OFF FUEL") s.fuel.take_off.0 ∷ []) (take_off (limit_mark TakeOff limiting) ∷ [])
    (number_line (codes "TRIP FUEL") s.fuel.trip.0 ∷ []) (landing (limit_mark Landing limiting) ∷ [])
    c.push_mass.new.out c.push_limited.new.out c.push_mass-2.new.out c.push_limited-2.new.out c.push_mass-3.new.out c.push_limited-3.new.out
    c.in_ok-push_mass.ensures (c.in_ok-push_limited.ensures ∙ ap (λ mark. c.push_mass.new.out ++ text_of (zero_fuel mark ∷ [])) c.limit_mark.ensures)
    c.in_ok-push_mass-2.ensures (c.in_ok-push_limited-2.ensures ∙ ap (λ mark. c.push_mass-2.new.out ++ text_of (take_off mark ∷ [])) c.limit_mark-2.ensures)
    c.in_ok-push_mass-3.ensures (last ∙ ap (λ mark. c.push_mass-3.new.out ++ text_of (landing mark ∷ [])) c.limit_mark-3.ensures))
    c.push_limited-3.ensures
