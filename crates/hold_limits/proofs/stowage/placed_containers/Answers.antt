use Rattle.std.proofs.Common.{map, ap, ◌∙◌, refl, arith}
use Rattle.std.proofs.lemmas.List.{take_all}
use Rattle.hold_limits.specs.Stowage.{as_load}
use Rattle.hold_limits.proofs.PlacedLemmas.{pairs, length-pairs}
use Rattle.hold_limits.proofs.StowageLemmas.{stowed-more}
use Rattle.hold_limits.proofs.stowage.placed_containers.Goals as goal

pub loop-rank-preserved : goal.loop-rank-preserved
loop-rank-preserved c =
    c.push.ensures.items
    ∙ stowed-more c.args.items.now c.args.prefix.now c.loop-rank.rank _ c.item_at.result.now c.loop-rank.stowage.items c.requires.short c.loop-rank-test.true c.item_at.ensures refl c.loop-rank.invariant

pub returns : goal.returns
returns c =
    let items = c.args.items.now in
    let prefix = c.args.prefix.now in
    c.loop-rank.invariant ∙ ap (map as_load) (take_all c.loop-rank.rank (pairs items prefix) (omega (arith, length-pairs items prefix c.requires.short)))
