use Rattle.std.proofs.Common.{◌∷◌, ◌++◌, [], ap, ◌∙◌}
use Rattle.last_minute.specs.Sheets.{stowed, place_on}
use Rattle.last_minute.specs.declared.sheet.Place.{Place}
use Rattle.last_minute.proofs.PlaceLemmas.{told-more}
use Rattle.last_minute.proofs.places.Stowage.places.Goals as goal

pub loop-number-preserved : goal.loop-number-preserved
loop-number-preserved c =
    c.in_ok-push.ensures.items
    ∙ ap (λ (place : Place). c.loop-number.places.items ++ place ∷ []) c.place.ensures
    ∙ told-more (place_on (stowed c.args.self.now) c.args.self.now.loose.now) c.args.positions.now c.loop-number.number c.index-positions-number.result c.loop-number.places.items
    c.loop-number-test.true c.index-positions-number.is c.loop-number.invariant
