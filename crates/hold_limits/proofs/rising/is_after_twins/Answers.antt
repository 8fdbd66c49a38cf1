use Rattle.std.proofs.Common.{◌<◌, length, arith, refl}
use Rattle.std.proofs.lemmas.Bool.{false≢true}
use borrow.Author.Count.{below_more}
use Rattle.hold_limits.specs.Placement.{Placed, placed}
use Rattle.hold_limits.proofs.PlacedLemmas.{get_or-placed, length-placed}
use Rattle.hold_limits.proofs.rising.is_after_twins.Goals as goal

pub returns-then-not-is_in_order : goal.returns-then-not-is_in_order
returns-then-not-is_in_order c =
    let t = c.args.task.now in
    let numbers = c.args.numbers.now in
    let rank = c.loop-rank.rank in
    let inside : rank < length (placed t numbers) = omega (arith, length-placed t numbers c.requires) in
    let d : Placed = (c.at_rank.result.now, 0) in
    let here = get_or-placed t numbers rank _ c.at_rank.result.now d c.requires c.loop-rank-test.true c.at_rank.ensures.value refl in
    (λ is. absurd (false≢true is), λ all. rw c.if-not-is_in_order.true at (c.is_in_order.ensures.1 (rw here at (all rank d inside))))

pub loop-rank-preserved : goal.loop-rank-preserved
loop-rank-preserved c =
    let t = c.args.task.now in
    let numbers = c.args.numbers.now in
    let rank = c.loop-rank.rank in
    below_more _ _ c.loop-rank.invariant
    (λ (d : Placed).
    rw (get_or-placed t numbers rank _ c.at_rank.result.now d c.requires c.loop-rank-test.true c.at_rank.ensures.value refl)
    (c.is_in_order.ensures.0 c.if-not-is_in_order.false))

pub returns : goal.returns
returns c =
    let counted = length-placed c.args.task.now c.args.numbers.now c.requires in
    (λ is k d within. c.loop-rank.invariant k (omega arith) d, λ all. refl)
