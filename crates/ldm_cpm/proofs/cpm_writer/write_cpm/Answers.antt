use Rattle.std.proofs.Common.{◌++◌, ◌∷◌, [], List, ap, ap₂, ◌∙◌}
use Rattle.std.specs.Prelude.{ℕ, codes, map}
use Rattle.last_minute.specs.declared.sheet.Place.{Place}
use Rattle.telex.specs.Elements.{line_text}
use Rattle.text_lines.specs.Lines.{text_of}
use Rattle.ldm_cpm.specs.Messages.{heading_elements, place_lines}
use Rattle.ldm_cpm.specs.Sheets.{heading_on, placing_of}
use Rattle.ldm_cpm.proofs.Texts.{cpm-built}
use Rattle.ldm_cpm.proofs.cpm_writer.write_cpm.Goals as goal

pub returns-clause-written : goal.returns-clause-written
returns-clause-written c =
    let s = c.args.s.now in
    let heading = line_text (heading_elements (heading_on s)) in
    let lines : List ℕ → List Place → List ℕ = λ to places. text_of (place_lines (map (placing_of to) places)) in
    c.finish.ensures ∙ c.in_ok-push_places.ensures
    ∙ ap₂ (λ t ls. t ++ ls)
    (c.in_ok-end_line.ensures.added ∙ ap (λ t. t ++ 10 ∷ []) (c.in_ok-push_heading.ensures ∙ ap (λ t. t ++ heading) (c.in_ok-text.ensures.added ∙ ap (λ t. t ++ codes "CPM\n") c.new-out.ensures)))
    (ap₂ lines c.bytes.ensures.value c.as_slice.ensures)
    ∙ cpm-built heading (lines s.leg.destination s.places)

pub returns-clause-read_back : goal.returns-clause-read_back
returns-clause-read_back c = λ spelled. record { spelled = spelled; is = returns-clause-written c }
