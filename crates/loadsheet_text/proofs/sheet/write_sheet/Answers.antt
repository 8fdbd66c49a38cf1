use Rattle.std.proofs.Common.{◌++◌, ◌∷◌, [], List, map, codes, ◌∙◌, ap}
use Rattle.text_lines.specs.Lines.{text_of}
use Rattle.flight_state.specs.declared.change.Lmc.{Lmc}
use Rattle.loadsheet_text.specs.SheetText.{flight_lines, load_lines, mass_lines, balance_lines, change_line}
use Rattle.loadsheet_text.proofs.SheetLemmas.{lines_of_6}
use Rattle.loadsheet_text.proofs.sheet.write_sheet.Goals as goal

pub returns : goal.returns
returns c =
    let s = c.args.s.now in
    let balanced = c.push_balance.new.out in
    let first = c.in_ok-push_flight.ensures ∙ ap (λ t. t ++ text_of (flight_lines s)) c.new-out.ensures in
    let changed = c.in_ok-push_changes.ensures ∙ ap (λ (changes : List Lmc). balanced ++ text_of (map change_line changes)) c.as_slice.ensures.value in
    c.finish.ensures
    ∙ lines_of_6 [] (flight_lines s) (load_lines s) (mass_lines s) (balance_lines s) (map change_line s.lmcs) (codes "END" ∷ [])
    c.push_flight.new.out c.push_load.new.out c.push_masses.new.out balanced c.push_changes.new.out c.text.new.self
    first c.in_ok-push_load.ensures c.in_ok-push_masses.ensures c.in_ok-push_balance.ensures changed c.in_ok-text.ensures.added
