use Rattle.std.proofs.Common.{ap, sym}
use Rattle.std.specs.Prelude.{option_map}
use Rattle.hold_limits.specs.Placement.{Placed}
use Rattle.last_minute.proofs.StowedLemmas.{found-here, found-later, found-nowhere}
use Rattle.last_minute.proofs.places.Stowage.container_on.Goals as goal

pub returns-then-self-rank : goal.returns-then-self-rank
returns-then-self-rank c =
    let found = found-here c.args.self.now c.args.number c.loop-rank.rank c.item_at.result.now c.requires c.loop-rank-test.true c.item_at.ensures c.if-self-rank.true c.loop-rank.invariant in
    sym (ap (option_map (λ (p : Placed). p.0.id)) found)

pub loop-rank-preserved : goal.loop-rank-preserved
loop-rank-preserved c =
    found-later c.args.self.now c.args.number c.loop-rank.rank c.requires c.loop-rank-test.true c.if-self-rank.false c.loop-rank.invariant

pub returns : goal.returns
returns c =
    let found = found-nowhere c.args.self.now c.args.number c.loop-rank.rank c.requires c.loop-rank-test.false c.loop-rank.invariant in
    sym (ap (option_map (λ (p : Placed). p.0.id)) found)
