use Rattle.hold_partial.proofs.KeptLemmas.{demand-is, places-within, amounts-on}
use Rattle.hold_reach.proofs.ReachLemmas.{next-item}
use Rattle.hold_partial.proofs.board.Board.amounts_of.Goals as goal

pub amounts_on-requires-clause-known : goal.amounts_on-requires-clause-known
amounts_on-requires-clause-known c =
    let b = c.args.self.now in
    let next = next-item b.task.now c.args.item c.requires.known in
    places-within c.args.extent b.task.now b.prefix.items next.0 b.tables.ranks.items c.places_for-places.result (c.places_for-places.ensures next.0 next.1)

pub returns : goal.returns
returns c = λ container there.
    let b = c.args.self.now in
    let demand = demand-is b.task.now b.tables c.requires.kept.prepared c.deref.result.now c.args.item _ container c.deref.ensures.0 there in
    amounts-on c.args.extent b.task.now b.prefix.items b.tables c.requires.kept.prepared container c.places_for-places.result (c.places_for-places.ensures container there) _ demand.mass c.amounts_on.result c.amounts_on.ensures
