use Rattle.std.proofs.Common.{List, ℕ, ◌++◌, codes, ◌∙◌, ap₂}
use Rattle.std.proofs.lemmas.Result.{on_ok_weaker}
use Rattle.mass_units.specs.declared.chord.Chord.{Chord}
use Rattle.envelope.specs.Outline.{Outline}
use Rattle.text_lines.specs.Lines.{text_of}
use Rattle.aircraft_text.specs.AircraftText.{outline_lines}
use Rattle.aircraft_text.proofs.LineLemmas.{lines_of_3}
use Rattle.aircraft_text.proofs.balance_lines.push_envelopes.Goals as goal

pub returns : goal.returns
returns c =
    let a = c.args.a.now in
    let after : List ℕ → List ℕ → Chord → Outline → List ℕ = λ old name chord outline. old ++ text_of (outline_lines chord name outline) in
    let one = c.push_outline.new.out in
    let two = c.push_outline-2.new.out in
    on_ok_weaker c.push_outline-3.result
    (λ last. lines_of_3 c.args.out.now (outline_lines a.chord (codes "zero_fuel") a.zero_fuel) (outline_lines a.chord (codes "take_off") a.take_off)
    (outline_lines a.chord (codes "landing") a.landing) one two c.push_outline-3.new.out
    (c.in_ok-push_outline.ensures ∙ ap₂ (after c.args.out.now (codes "zero_fuel")) c.chord-chord.ensures.value c.zero_fuel.ensures.value)
    (c.in_ok-push_outline-2.ensures ∙ ap₂ (after one (codes "take_off")) c.chord-chord.ensures.value c.take_off.ensures.value)
    (last ∙ ap₂ (after two (codes "landing")) c.chord-chord.ensures.value c.landing.ensures.value))
    c.push_outline-3.ensures
