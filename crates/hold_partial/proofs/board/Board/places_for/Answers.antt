use Rattle.std.proofs.Common.{⊎_elim, get_or, ◌∙◌}
use Rattle.position_set.specs.Sets.{has}
use Rattle.hold_partial.proofs.KeptLemmas.{no_set, no_level, no_demand, level-is, demand-is, demand-class, closed-is}
use Rattle.hold_partial.proofs.LevelSteps.{free-ranks, open-ranks}
use Rattle.hold_partial.proofs.board.Board.places_for.Goals as goal

pub bounds-self-demand : goal.bounds-self-demand
bounds-self-demand c = let b = c.args.self.now in demand-class b.task.now b.tables c.requires.kept.lawful c.requires.kept.prepared c.deref.result.now c.args.item _ c.deref.ensures.0 c.requires.known

pub returns-in-Reach : goal.returns-in-Reach
returns-in-Reach c = λ container there r.
    let b = c.args.self.now in
    let level = level-is b c.requires.kept c.len.result no_level c.len.ensures.value in
    let demand = demand-is b.task.now b.tables c.requires.kept.prepared c.deref.result.now c.args.item no_demand container c.deref.ensures.0 there in
    rw c.in-Reach.is (c.difference.ensures r
    ∙ open-ranks b.task.now b.tables.ranks.items b.prefix.items container (has c.difference-free.result) (has (get_or b.closed.to (get_or c.deref.result.now c.args.item no_demand).twins no_set))
    (λ r. c.difference-free.ensures r ∙ free-ranks b.task.now b.tables.ranks.items b.prefix.items container _ _ level demand r)
    (closed-is b c.requires.kept c.deref.result.now c.args.item no_demand no_set container c.deref.ensures.0 there) r)

pub returns-in-WideReach : goal.returns-in-WideReach
returns-in-WideReach c = λ container there r.
    let b = c.args.self.now in
    let level = level-is b c.requires.kept c.len.result no_level c.len.ensures.value in
    let demand = demand-is b.task.now b.tables c.requires.kept.prepared c.deref.result.now c.args.item no_demand container c.deref.ensures.0 there in
    let free = c.difference-free.ensures r ∙ free-ranks b.task.now b.tables.ranks.items b.prefix.items container _ _ level demand r in
    ⊎_elim (λ is. rw is free) (λ is. rw is free) c.in-WideReach.is
