use Rattle.std.proofs.Common.{ap, sym, arith}
use Rattle.std.specs.Prelude.{option_map}
use Rattle.hold_limits.specs.Placement.{Placed}
use Rattle.transit_messages.proofs.Containers.{light-at, found-here, found-later, found-nowhere}
use Rattle.transit_messages.proofs.onward.Aboard.container_on.Goals as goal

pub returns-then-self-rank-clause-found : goal.returns-then-self-rank-clause-found
returns-then-self-rank-clause-found c =
    let a = c.args.self.now in
    let found = found-here a.task.now a.path.now c.args.number c.loop-rank.rank c.at_rank.result.now c.requires.short c.loop-rank-test.true c.at_rank.ensures.value c.if-self-rank.true c.loop-rank.invariant in
    sym (ap (option_map (λ (p : Placed). p.0)) found)

pub returns-then-self-rank-clause-light : goal.returns-then-self-rank-clause-light
returns-then-self-rank-clause-light c =
    light-at c.args.self.now.task.now c.loop-rank.rank c.at_rank.result.now c.at_rank.ensures.lawful (omega (arith, c.loop-rank-test.true, c.requires.short)) c.at_rank.ensures.value

pub loop-rank-preserved : goal.loop-rank-preserved
loop-rank-preserved c =
    let a = c.args.self.now in
    found-later a.task.now a.path.now c.args.number c.loop-rank.rank c.requires.short c.loop-rank-test.true c.if-self-rank.false c.loop-rank.invariant

pub returns-clause-found : goal.returns-clause-found
returns-clause-found c =
    let a = c.args.self.now in
    let found = found-nowhere a.task.now a.path.now c.args.number c.loop-rank.rank c.requires.short c.loop-rank-test.false c.loop-rank.invariant in
    sym (ap (option_map (λ (p : Placed). p.0)) found)
