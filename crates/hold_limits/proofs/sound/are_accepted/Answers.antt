use Rattle.std.proofs.Common.{◌<◌, arith, length, refl}
use Rattle.std.proofs.lemmas.Bool.{false≢true}
use borrow.Author.Count.{below_more}
use Rattle.hold_limits.specs.Placement.{Placed}
use Rattle.hold_limits.proofs.PlacedLemmas.{pairs, accepted-pair, length-pairs}
use Rattle.hold_limits.proofs.sound.are_accepted.Goals as goal

pub returns-then-not-accepts_at : goal.returns-then-not-accepts_at
returns-then-not-accepts_at c =
    let items = c.args.items.now in
    let prefix = c.args.prefix.now in
    let rank = c.loop-rank.rank in
    let inside : rank < length (pairs items prefix) = omega (arith, length-pairs items prefix c.requires.short) in
    let d : Placed = (c.item_at.result.now, 0) in
    let same = accepted-pair items prefix rank c.item_at.result.now c.args.hold.now d c.requires.short c.loop-rank-test.true c.item_at.ensures in
    (λ is. absurd (false≢true is), λ all. rw c.if-not-accepts_at.true at (c.accepts_at.ensures.meaning.1 (same.1 (all rank d inside))))

pub loop-rank-preserved : goal.loop-rank-preserved
loop-rank-preserved c =
    below_more _ _ c.loop-rank.invariant
    (λ (d : Placed). (accepted-pair c.args.items.now c.args.prefix.now c.loop-rank.rank c.item_at.result.now c.args.hold.now d c.requires.short c.loop-rank-test.true c.item_at.ensures).0
    (c.accepts_at.ensures.meaning.0 c.if-not-accepts_at.false))

pub returns : goal.returns
returns c =
    let counted = length-pairs c.args.items.now c.args.prefix.now c.requires.short in
    (λ is k d within. c.loop-rank.invariant k (omega arith) d, λ all. refl)
