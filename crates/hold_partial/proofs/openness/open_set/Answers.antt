use Rattle.std.proofs.Common.{◌∙◌}
use Rattle.hold_reach.specs.Reach.{falls}
use Rattle.hold_partial.proofs.KeptLemmas.{no_set, no_demand, demand-is, demand-class, closed-is}
use Rattle.hold_partial.proofs.OpennessLemmas.{free-numbers, open-numbers, open-where_free}
use Rattle.hold_partial.proofs.openness.open_set.Goals as goal

pub bounds-board-demand : goal.bounds-board-demand
bounds-board-demand c = let b = c.args.board.now in demand-class b.task.now b.tables c.requires.kept.lawful c.requires.kept.prepared c.deref.result.now c.args.rank _ c.deref.ensures.0 c.requires.known

pub returns-then-is_empty : goal.returns-then-is_empty
returns-then-is_empty c = λ item there q.
    let b = c.args.board.now in
    let t = b.task.now in
    let demand = demand-is t b.tables c.requires.kept.prepared c.deref.result.now c.args.rank no_demand item c.deref.ensures.0 there in
    c.difference-free.ensures q
    ∙ free-numbers t b.prefix.items item _ c.args.blocked demand.accepting c.requires.blocked q
    ∙ open-where_free t b.prefix.items item b.tables.ranks.items _ c.requires.kept.prepared.ranks (closed-is b c.requires.kept c.deref.result.now c.args.rank no_demand no_set item c.deref.ensures.0 there) (c.is_empty.ensures.0 c.if-is_empty.true) q

pub returns : goal.returns
returns c = λ item there q.
    let b = c.args.board.now in
    let t = b.task.now in
    let demand = demand-is t b.tables c.requires.kept.prepared c.deref.result.now c.args.rank no_demand item c.deref.ensures.0 there in
    let closed = c.numbers_of.ensures (falls t b.prefix.items item) (closed-is b c.requires.kept c.deref.result.now c.args.rank no_demand no_set item c.deref.ensures.0 there) in
    c.difference.ensures q
    ∙ open-numbers t b.prefix.items item c.difference-free.result c.numbers_of.result
    (λ k. c.difference-free.ensures k ∙ free-numbers t b.prefix.items item _ c.args.blocked demand.accepting c.requires.blocked k) closed q
