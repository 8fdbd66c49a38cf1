use Rattle.std.proofs.Common.{◌++◌, map, ap, ◌∙◌, arith}
use Rattle.std.proofs.lemmas.List.{take_all}
use Rattle.text_lines.specs.Lines.{text_of}
use Rattle.text_lines.proofs.GrowingTexts.{lines_grow_by}
use Rattle.ldm_cpm.proofs.Texts.{place_line, places-text}
use Rattle.ldm_cpm.proofs.cpm_writer.push_places.Goals as goal

pub loop-place-preserved : goal.loop-place-preserved
loop-place-preserved c =
    lines_grow_by (place_line c.args.destination.now) c.args.places.now c.loop-place.place-index c.place-item.result c.args.out.now c.loop-place.out _
    c.loop-place-test.true c.place-item.is c.loop-place.invariant c.in_ok-push_place.ensures

pub returns : goal.returns
returns c =
    let destination = c.args.destination.now in
    let places = c.args.places.now in
    c.loop-place.invariant
    ∙ ap (λ lines. c.args.out.now ++ text_of lines) (ap (map (place_line destination)) (take_all c.loop-place.place-index places (omega arith)) ∙ places-text destination places)
