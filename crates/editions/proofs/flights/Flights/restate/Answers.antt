use Rattle.std.proofs.Common.{◌≡◌, slice_set, ap, ◌∙◌}
use Rattle.std.proofs.lemmas.Option.{get_or_from_slice_get}
use Rattle.editions.specs.declared.flights.Flight.{Flight}
use Rattle.editions.specs.Places.{place_in}
use Rattle.editions.proofs.PlaceLemmas.{indexed-at}
use Rattle.editions.proofs.flights.Flights.restate.Goals as goal

pub invariant_of-self : goal.invariant_of-self
invariant_of-self c = indexed-at c.self.inside.list.items (place_in c.self.inside.places.entries) c.args.place (record { state = c.args.state; task = c.index_mut.result.now.task }) c.self.invariant (rw (← c.self.view_is) at c.requires)

pub returns : goal.returns
returns c = rw (← c.self.view_is) (λ flight held.
    let same : c.index_mut.result.now ≡ flight = c.index_mut.ensures.value ∙ get_or_from_slice_get c.self.inside.list.items c.args.place flight c.index_mut.result.now held in
    ap (λ (f : Flight). slice_set c.self.inside.list.items c.args.place (record { state = c.args.state; task = f.task })) same)
