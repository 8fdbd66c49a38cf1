use Rattle.std.proofs.Common.{◌<◌, ◌≤◌, length, arith, refl}
use Rattle.std.proofs.lemmas.Bool.{false≢true}
use Rattle.base_words.proofs.PairLemmas.{pairs-more, pairs-all, pairs-whole}
use Rattle.hold_limits.specs.Placement.{Placed, placed}
use Rattle.hold_limits.proofs.PlacedLemmas.{length-placed}
use Rattle.hold_limits.proofs.TwinLemmas.{RisesTo, rises-at}
use Rattle.hold_limits.proofs.rising.is_rising.Goals as goal

pub returns-then-not-is_after_twins : goal.returns-then-not-is_after_twins
returns-then-not-is_after_twins c =
    let t = c.args.task.now in
    let prefix = c.args.prefix.now in
    let rank = c.loop-rank.rank in
    let d : Placed = (c.at_rank.result.now, 0) in
    let inside : rank < length (placed t prefix) = omega (arith, length-placed t prefix c.requires) in
    let at = rises-at t prefix rank c.at_rank.result.now d c.requires c.loop-rank-test.true c.at_rank.ensures.value in (
      λ is. absurd (false≢true is),
      λ rising. rw c.if-not-is_after_twins.true at (c.is_after_twins.ensures.1 (at.1 (pairs-all RisesTo (placed t prefix) rank d inside rising))),
    )

pub loop-rank-preserved : goal.loop-rank-preserved
loop-rank-preserved c =
    let t = c.args.task.now in
    let prefix = c.args.prefix.now in
    let rank = c.loop-rank.rank in
    let d : Placed = (c.at_rank.result.now, 0) in
    let inside : rank < length (placed t prefix) = omega (arith, length-placed t prefix c.requires) in
    let at = rises-at t prefix rank c.at_rank.result.now d c.requires c.loop-rank-test.true c.at_rank.ensures.value in
    pairs-more RisesTo (placed t prefix) rank d inside c.loop-rank.invariant (at.0 (c.is_after_twins.ensures.0 c.if-not-is_after_twins.false))

pub returns : goal.returns
returns c =
    let t = c.args.task.now in
    let past : length (placed t c.args.prefix.now) ≤ c.loop-rank.rank = omega (arith, length-placed t c.args.prefix.now c.requires, c.loop-rank-test.false) in
    (λ is. pairs-whole RisesTo (placed t c.args.prefix.now) c.loop-rank.rank past c.loop-rank.invariant, λ rising. refl)
