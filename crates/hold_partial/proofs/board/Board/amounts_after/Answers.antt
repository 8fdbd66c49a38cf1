use Rattle.std.proofs.Common.{[], ◌∷◌, ◌++◌}
use Rattle.hold_partial.proofs.KeptLemmas.{no_demand, demand-is, places-within, amounts-on}
use Rattle.hold_reach.proofs.ReachLemmas.{next-item}
use Rattle.hold_partial.proofs.board.Board.amounts_after.Goals as goal

pub amounts_on-requires-clause-known : goal.amounts_on-requires-clause-known
amounts_on-requires-clause-known c =
    let b = c.args.self.now in
    let next = next-item b.task.now c.args.item c.requires.item in
    places-within c.args.extent b.task.now (b.prefix.items ++ c.args.position ∷ []) next.0 b.tables.ranks.items c.places_after-places.result (c.places_after-places.ensures next.0 next.1)

pub returns : goal.returns
returns c = λ container there.
    let b = c.args.self.now in
    let demand = demand-is b.task.now b.tables c.requires.kept.prepared c.deref.result.now c.args.item no_demand container c.deref.ensures.0 there in
    amounts-on c.args.extent b.task.now (b.prefix.items ++ c.args.position ∷ []) b.tables c.requires.kept.prepared container c.places_after-places.result (c.places_after-places.ensures container there) _ demand.mass c.amounts_on.result c.amounts_on.ensures
