use Rattle.std.proofs.Common.{◌≡◌, ◌∙◌, ◌++◌, ◌∷◌, [], List, ap, sym}
use Rattle.std.specs.Prelude.{slice_get}
use Rattle.std.proofs.lemmas.Option.{same_Some}
use Rattle.aircraft_file.specs.Craft.{Craft}
use Rattle.flight_row.proofs.LoadLemmas.{only_aircraft}
use Rattle.flight_tests.proofs.rows.the_worked_row_is_read_and_written.Goals as goal

pub write_row-requires : goal.write_row-requires
write_row-requires g c =
    let x : Craft = c.in_ok-aircraft.field-0 in
    let aircraft : Craft = c.in-Some.aircraft.now in
    let items : c.push.new.self.items ≡ x ∷ [] = c.in_ok-push.ensures.items ∙ ap (λ (t : List Craft). t ++ x ∷ []) c.new-fleet.ensures.items in
    let same : aircraft ≡ x = same_Some aircraft x (c.in-Some.ensures.value ∙ ap (λ (t : List Craft). slice_get t 0) (c.deref.ensures.value ∙ items)) in
    let one = c.as_slice.ensures.value ∙ items ∙ ap (λ (b : Craft). b ∷ []) (sym same) in
    (c.in_ok-flight.ensures.kept aircraft (only_aircraft c.as_slice.result.now aircraft c.as_bytes.result.now c.in_ok-flight.flight one c.in_ok-flight.ensures.read)).0
