use Rattle.std.proofs.Common.{List, [], ◌++◌, map, ◌∙◌, ap}
use Rattle.std.specs.List.{enumerate_from}
use Rattle.payload.specs.declared.figures.Zone.{Zone}
use Rattle.fuel_table.specs.declared.row.FuelRow.{FuelRow}
use Rattle.hold_limits.specs.Layout.{Layout}
use Rattle.text_lines.specs.Lines.{text_of}
use Rattle.aircraft_text.specs.AircraftText.{figure_lines, envelope_lines, fuel_line, zone_line, hold_lines}
use Rattle.aircraft_text.proofs.LineLemmas.{lines_of_5}
use Rattle.aircraft_text.proofs.writer.write_aircraft.Goals as goal

pub returns : goal.returns
returns c =
    let a = c.args.aircraft.now in
    let envelopes = c.push_envelopes.new.out in
    let fuel = c.write_lines.new.out in
    let zones = c.push_zones.new.out in
    c.finish.ensures
    ∙ lines_of_5 [] (figure_lines a) (envelope_lines a) (map fuel_line a.fuel) (map zone_line (enumerate_from 1 a.zones)) (hold_lines a.hold)
    c.push_figures.new.out envelopes fuel zones c.push_hold.new.out
    (c.in_ok-push_figures.ensures ∙ ap (λ t. t ++ text_of (figure_lines a)) c.new-out.ensures) c.in_ok-push_envelopes.ensures
    (c.in_ok-write_lines.ensures.added ∙ ap (λ (rows : List FuelRow). envelopes ++ text_of (map fuel_line rows)) (c.rows.ensures.value ∙ c.fuel.ensures.value))
    (c.in_ok-push_zones.ensures ∙ ap (λ (zones : List Zone). fuel ++ text_of (map zone_line (enumerate_from 1 zones))) c.zones.ensures.value)
    (c.in_ok-push_hold.ensures ∙ ap (λ (hold : Layout). zones ++ text_of (hold_lines hold)) c.hold.ensures.value)
