use Rattle.editions.specs.Places.{place_in}
use Rattle.editions.proofs.PlaceLemmas.{indexed-at, indexed-end}
use Rattle.editions.proofs.flights.Flights.put.Goals as goal

pub invariant_of-self : goal.invariant_of-self
invariant_of-self c = indexed-at c.self.inside.list.items (place_in c.self.inside.places.entries) c.in-Some.i c.args.flight c.self.invariant (rw c.in-Some.is at (rw (← c.self.view_is) at c.requires.place))

pub invariant_of-self-in-Some-2 : goal.invariant_of-self-in-Some-2
invariant_of-self-in-Some-2 c = indexed-at c.self.inside.list.items (place_in c.self.inside.places.entries) c.in-Some.i c.args.flight c.self.invariant (rw c.in-Some.is at (rw (← c.self.view_is) at c.requires.place))

pub invariant_of-self-in-None : goal.invariant_of-self-in-None
invariant_of-self-in-None c = rw c.push_reserved.ensures.items (indexed-end c.self.inside.list.items (place_in c.self.inside.places.entries) c.args.flight c.self.invariant (rw c.in-None.is at (rw (← c.self.view_is) at c.requires.room)).1)
