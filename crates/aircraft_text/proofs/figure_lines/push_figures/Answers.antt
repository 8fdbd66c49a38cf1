use Rattle.std.proofs.Common.{◌++◌, ◌∷◌, [], ◌∙◌, ap}
use Rattle.std.proofs.lemmas.Result.{on_ok_weaker}
use Rattle.mass_units.specs.declared.chord.Chord.{Chord}
use Rattle.mass_limits.specs.declared.figures.Certified.{Certified}
use Rattle.payload.specs.declared.figures.Averages.{Averages}
use Rattle.text_lines.specs.Lines.{text_of}
use Rattle.aircraft_text.specs.AircraftText.{registration_line, version_line, dry_line, chord_line, limits_line, tolerance_line, trim_line, averages_line}
use Rattle.aircraft_text.proofs.LineLemmas.{lines_of_7}
use Rattle.aircraft_text.proofs.figure_lines.push_figures.Goals as goal

pub returns : goal.returns
returns c =
    let a = c.args.a.now in
    let dry = c.push_dry.new.out in
    let chord = c.push_chord.new.out in
    let trim = c.push_trim.new.out in
    on_ok_weaker c.push_averages.result
    (λ last. lines_of_7 c.args.out.now (registration_line a ∷ version_line a ∷ []) (dry_line a ∷ []) (chord_line a.chord ∷ []) (limits_line a.certified ∷ []) (tolerance_line a ∷ []) (trim_line a ∷ [])
    (averages_line a.averages ∷ [])
    c.push_identity.new.out dry chord c.push_limits.new.out c.push_tolerance.new.out trim c.push_averages.new.out
    c.in_ok-push_identity.ensures c.in_ok-push_dry.ensures
    (c.in_ok-push_chord.ensures ∙ ap (λ (x : Chord). dry ++ text_of (chord_line x ∷ [])) c.chord.ensures.value)
    (c.in_ok-push_limits.ensures ∙ ap (λ (x : Certified). chord ++ text_of (limits_line x ∷ [])) c.certified.ensures.value)
    c.in_ok-push_tolerance.ensures c.in_ok-push_trim.ensures
    (last ∙ ap (λ (x : Averages). trim ++ text_of (averages_line x ∷ [])) c.averages.ensures.value))
    c.push_averages.ensures
