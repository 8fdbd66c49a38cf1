use Rattle.std.proofs.Common.{[], ◌∷◌, ◌++◌, length, arith, length-append}
use Rattle.std.proofs.lemmas.Int.{ints}
use Rattle.hold_reach.proofs.ReachLemmas.{next-item}
use Rattle.hold_partial.proofs.AheadLemmas.{so_far-next, so_far-bound}
use Rattle.hold_partial.proofs.board.Board.start_after.Goals as goal

pub overflow_add-result : goal.overflow_add-result
overflow_add-result c = omega (arith, ints, c.start_of.ensures.bounded, c.added_on.ensures.bounded)

pub returns-clause-value : goal.returns-clause-value
returns-clause-value c =
    let b = c.args.self.now in
    let next = next-item b.task.now (length b.prefix.items) c.requires.short in
    let grows = so_far-next c.args.extent b.task.now b.prefix.items next.0 c.args.position next.1 in
    omega (arith, ints, c.start_of.ensures.bounded, c.added_on.ensures.bounded, c.start_of.ensures.value, c.added_on.ensures.value next.0 next.1, grows)

pub returns-clause-bounded : goal.returns-clause-bounded
returns-clause-bounded c =
    let b = c.args.self.now in
    let next = next-item b.task.now (length b.prefix.items) c.requires.short in
    let grows = so_far-next c.args.extent b.task.now b.prefix.items next.0 c.args.position next.1 in
    let bound = so_far-bound c.args.extent b.task.now (b.prefix.items ++ c.args.position ∷ []) c.requires.kept.lawful (omega (arith, c.requires.short, length-append b.prefix.items (c.args.position ∷ []))) in
    omega (arith, ints, c.start_of.ensures.bounded, c.added_on.ensures.bounded, c.start_of.ensures.value, c.added_on.ensures.value next.0 next.1, grows, bound)
