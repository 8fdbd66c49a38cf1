use Rattle.std.proofs.Common.{◌≡◌, Some, None, sym, ap, ◌∙◌}
use Rattle.std.specs.Option.{option_copied}
use Rattle.editions.specs.Places.{place_in}
use Rattle.editions.proofs.PlaceLemmas.{place-absent, place-stands, place-empty}
use Rattle.editions.proofs.ReasonLemmas.{none-from}
use Rattle.editions.proofs.flights.Flights.place_of.Goals as goal

pub returns-in_default : goal.returns-in_default
returns-in_default c = rw (← c.self.view_is) (
    let places = place_in c.self.inside.places.entries in
    let absent : places c.args.key.now ≡ None = ap places (sym c.text_of.ensures) ∙ sym c.get.ensures.value ∙ ap (λ o. option_copied o) (none-from c.get.result c.in_default.not-Some) in
    place-absent c.self.inside.list.items places c.args.key.now c.self.invariant absent)

pub returns-then-stands_at : goal.returns-then-stands_at
returns-then-stands_at c = rw (← c.self.view_is) (
    let places = place_in c.self.inside.places.entries in
    let told : places c.args.key.now ≡ Some c.in-Some.field-0.now = ap places (sym c.text_of.ensures) ∙ sym c.get.ensures.value ∙ ap (λ o. option_copied o) c.in-Some.is in
    place-stands c.self.inside.list.items places c.args.key.now c.in-Some.field-0.now c.stands_at.result c.self.invariant told (rw (← c.self.view_is) at c.stands_at.ensures) c.if-stands_at.true)

pub returns-else-stands_at : goal.returns-else-stands_at
returns-else-stands_at c = rw (← c.self.view_is) (
    let places = place_in c.self.inside.places.entries in
    let told : places c.args.key.now ≡ Some c.in-Some.field-0.now = ap places (sym c.text_of.ensures) ∙ sym c.get.ensures.value ∙ ap (λ o. option_copied o) c.in-Some.is in
    place-empty c.self.inside.list.items places c.args.key.now c.in-Some.field-0.now c.stands_at.result c.self.invariant told (rw (← c.self.view_is) at c.stands_at.ensures) c.if-stands_at.false)
