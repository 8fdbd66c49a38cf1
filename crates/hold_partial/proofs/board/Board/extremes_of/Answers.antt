use Rattle.hold_reach.proofs.ReachLemmas.{next-item}
use Rattle.hold_reach.specs.declared.extent.Extent.TheVariants.{Reach}
use Rattle.hold_partial.proofs.AheadLemmas.{extremes-are}
use Rattle.hold_partial.proofs.KeptLemmas.{no_demand, demand-is, places-within}
use Rattle.hold_partial.proofs.board.Board.extremes_of.Goals as goal

pub number_at-requires : goal.number_at-requires
number_at-requires c =
    let b = c.args.self.now in
    let next = next-item b.task.now c.args.item c.requires.known in
    places-within Reach b.task.now b.prefix.items next.0 b.tables.ranks.items c.places_for-places.result (c.places_for-places.ensures next.0 next.1) c.in_ok-first.first c.in_ok-first.ensures.1

pub number_at-requires-2 : goal.number_at-requires-2
number_at-requires-2 c =
    let b = c.args.self.now in
    let next = next-item b.task.now c.args.item c.requires.known in
    places-within Reach b.task.now b.prefix.items next.0 b.tables.ranks.items c.places_for-places.result (c.places_for-places.ensures next.0 next.1) c.in_ok-last.last c.in_ok-last.ensures.1

pub span_between-requires-clause-first_known : goal.span_between-requires-clause-first_known
span_between-requires-clause-first_known c =
    let b = c.args.self.now in
    let next = next-item b.task.now c.args.item c.requires.known in
    places-within Reach b.task.now b.prefix.items next.0 b.tables.ranks.items c.places_for-places.result (c.places_for-places.ensures next.0 next.1) c.in_ok-first.first c.in_ok-first.ensures.1

pub span_between-requires-clause-last_known : goal.span_between-requires-clause-last_known
span_between-requires-clause-last_known c =
    let b = c.args.self.now in
    let next = next-item b.task.now c.args.item c.requires.known in
    places-within Reach b.task.now b.prefix.items next.0 b.tables.ranks.items c.places_for-places.result (c.places_for-places.ensures next.0 next.1) c.in_ok-last.last c.in_ok-last.ensures.1

pub returns : goal.returns
returns c = λ container there.
    let b = c.args.self.now in
    let demand = demand-is b.task.now b.tables c.requires.kept.prepared c.deref.result.now c.args.item no_demand container c.deref.ensures.0 there in
    extremes-are b.task.now b.tables c.requires.kept.prepared b.prefix.items container c.places_for-places.result (c.places_for-places.ensures container there)
    c.in_ok-first.first c.in_ok-last.last c.in_ok-first.ensures.1 c.in_ok-last.ensures.1 c.in_ok-first.ensures.2 c.in_ok-last.ensures.2
    _ demand.mass _ c.number_at.ensures c.number_at-2.ensures c.span_between.ensures.low c.span_between.ensures.high
