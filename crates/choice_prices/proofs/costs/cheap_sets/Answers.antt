use Rattle.std.proofs.Common.{◌<◌, length, List, map, refl, ap, ◌∙◌, arith}
use Rattle.hold_reach.proofs.LoadLemmas.{mass-at}
use Rattle.position_set.specs.declared.set.PositionSet.{PositionSet}
use Rattle.position_set.specs.Sets.{members}
use Rattle.choice_prices.proofs.CostLemmas.{cheap-more}
use Rattle.choice_prices.proofs.costs.cheap_sets.Goals as goal

pub cheap_positions-requires-clause-light : goal.cheap_positions-requires-clause-light
cheap_positions-requires-clause-light c =
    let t = c.args.task.now in
    let rank = c.loop-rank.rank in
    let counted = c.candidate_count-rank-end.ensures in
    let in_order : rank < length t.items = omega (arith, c.loop-rank-test.true, counted.items) in
    mass-at t c.at_rank.ensures.lawful rank c.at_rank.result.now in_order c.at_rank.ensures.value

pub loop-rank-preserved : goal.loop-rank-preserved
loop-rank-preserved c =
    let t = c.args.task.now in
    let rank = c.loop-rank.rank in
    let counted = c.candidate_count-rank-end.ensures in
    let in_order : rank < length t.items = omega (arith, c.loop-rank-test.true, counted.items) in
    let in_sets : rank < length c.args.sets.now = omega (arith, c.loop-rank-test.true, counted.sets) in
    let more = cheap-more t c.args.tariffs.now _ c.args.sets.now c.loop-rank.cheap.items rank c.at_rank.result.now _ _ c.cheap_positions.result in_order in_sets c.at_rank.ensures.value refl c.cheap_positions.ensures c.loop-rank.invariant.value in
    record {
      count = omega (arith, c.push.ensures.len, c.loop-rank.invariant.count);
      value = ap (λ (sets : List PositionSet). map members sets) c.push.ensures.items ∙ more;
    }
