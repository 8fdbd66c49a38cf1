use Rattle.std.proofs.Common.{◌∙◌, List, map, ap, subst, sym}
use Rattle.std.specs.Prelude.{All, filter, codes}
use Rattle.std.proofs.lemmas.List.Elements.{All-filter, All-map}
use Rattle.ldm_cpm.specs.Messages.{IsSpelledPlacing}
use Rattle.ldm_cpm.specs.Reading.{placing_said}
use Rattle.ldm_cpm.specs.declared.messages.CpmPlace.{CpmPlace}
use Rattle.transit_tasks.specs.TransitFaults.{transit_fault}
use Rattle.transit_messages.specs.Agreement.{stays}
use Rattle.transit_messages.proofs.Finding.{All-of_map}
use Rattle.transit_tests.proofs.messages.onward.Goals as goal

pub write_onward-requires-clause-stay : goal.write_onward-requires-clause-stay
write_onward-requires-clause-stay c =
    let places = c.in_ok-cpm.cpm.places in
    let staying = stays (codes "FRA") in
    subst (λ (stay : List CpmPlace). All IsSpelledPlacing (map placing_said stay))
    (sym (c.as_slice-3.ensures.value ∙ c.in_ok-stay.ensures))
    (All-map IsSpelledPlacing placing_said (filter staying places)
    (All-filter staying (λ (p : CpmPlace). IsSpelledPlacing (placing_said p)) places
    (All-of_map IsSpelledPlacing placing_said places c.in_ok-cpm.ensures.read.spelled.places.spelled)))

pub write_onward-requires-clause-right : goal.write_onward-requires-clause-right
write_onward-requires-clause-right c =
    ap (λ (stay : List CpmPlace). transit_fault c.args.task.now (map placing_said stay)) (c.as_slice-3.ensures.value ∙ sym c.as_slice.ensures.value) ∙ c.in_ok-around.ensures.right
