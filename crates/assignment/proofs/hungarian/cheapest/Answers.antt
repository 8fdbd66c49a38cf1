use Rattle.std.proofs.Common.{◌≡◌, length, arith}
use Rattle.assignment.proofs.Ends.{lower-prices, all-bounded, no-way, settled-items, settled-places, settled-way, settled-tight}
use Rattle.assignment.proofs.hungarian.cheapest.Goals as goal

pub returns-then-not-enter-clause-prices : goal.returns-then-not-enter-clause-prices
returns-then-not-enter-clause-prices c =
    let kept = c.loop.invariant in
    rw (← kept.candidates, ← kept.influences)
    (lower-prices c.loop.standing.costs c.enter.new.standing.items.items c.enter.new.standing.places.items (c.enter.ensures.beyond c.if-not-enter.true).prices)

pub returns-then-not-enter-clause-bounded_items : goal.returns-then-not-enter-clause-bounded_items
returns-then-not-enter-clause-bounded_items c = all-bounded c.enter.new.standing.items.items 10000000000000 (c.enter.ensures.beyond c.if-not-enter.true).near_items

pub returns-then-not-enter-clause-bounded_places : goal.returns-then-not-enter-clause-bounded_places
returns-then-not-enter-clause-bounded_places c = all-bounded c.enter.new.standing.places.items 10000000000000 (c.enter.ensures.beyond c.if-not-enter.true).near_places

pub returns-then-not-enter-clause-none : goal.returns-then-not-enter-clause-none
returns-then-not-enter-clause-none c =
    let kept = c.loop.invariant in
    rw (← kept.candidates)
    (no-way c.loop.standing.costs c.enter.new.standing.items.items c.enter.new.standing.places.items
    (rw (kept.candidates, kept.influences) c.requires.ordinary) (c.enter.ensures.beyond c.if-not-enter.true))

pub returns-clause-prices : goal.returns-clause-prices
returns-clause-prices c =
    let kept = c.loop.invariant in
    rw (← kept.candidates, ← kept.influences)
    (lower-prices c.loop.standing.costs c.loop.standing.items.items c.loop.standing.places.items kept.settled.standing.prices)

pub returns-clause-bounded_items : goal.returns-clause-bounded_items
returns-clause-bounded_items c =
    let kept = c.loop.invariant in
    all-bounded c.loop.standing.items.items 10000000000000
    (settled-items c.loop.standing.costs c.loop.standing.items.items c.loop.standing.places.items c.loop.standing.stands.items
    (rw (kept.candidates, kept.influences) c.requires.ordinary) kept.settled)

pub returns-clause-bounded_places : goal.returns-clause-bounded_places
returns-clause-bounded_places c =
    let kept = c.loop.invariant in
    all-bounded c.loop.standing.places.items 10000000000000
    (settled-places c.loop.standing.costs c.loop.standing.items.items c.loop.standing.places.items c.loop.standing.stands.items
    (rw (kept.candidates, kept.influences) c.requires.ordinary) kept.settled)

pub returns-clause-way : goal.returns-clause-way
returns-clause-way c =
    let kept = c.loop.invariant in
    let whole : length c.loop.standing.stands.items ≡ length c.loop.standing.costs.candidates.now = rw kept.candidates (omega (arith, kept.count)) in
    rw (← kept.candidates)
    (settled-way c.loop.standing.costs c.loop.standing.items.items c.loop.standing.places.items c.loop.standing.stands.items
    (rw (kept.candidates, kept.influences) c.requires.ordinary) kept.settled whole)

pub returns-clause-tight : goal.returns-clause-tight
returns-clause-tight c =
    let kept = c.loop.invariant in
    let whole : length c.loop.standing.stands.items ≡ length c.loop.standing.costs.candidates.now = rw kept.candidates (omega (arith, kept.count)) in
    rw (← kept.candidates, ← kept.influences)
    (settled-tight c.loop.standing.costs c.loop.standing.items.items c.loop.standing.places.items c.loop.standing.stands.items
    (rw (kept.candidates, kept.influences) c.requires.ordinary) kept.settled whole)
