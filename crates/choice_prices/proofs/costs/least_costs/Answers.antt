use Rattle.std.proofs.Common.{◌<◌, length, refl, arith}
use Rattle.std.proofs.lemmas.Int.{ints}
use Rattle.hold_reach.proofs.LoadLemmas.{mass-at}
use Rattle.choice_prices.proofs.CostLemmas.{leasts-more}
use Rattle.choice_prices.proofs.costs.least_costs.Goals as goal

pub least_cost-sum-requires-clause-light : goal.least_cost-sum-requires-clause-light
least_cost-sum-requires-clause-light c =
    let t = c.args.task.now in
    let rank = c.loop-rank.rank in
    let counted = c.candidate_count-rank-end.ensures in
    let in_order : rank < length t.items = omega (arith, c.loop-rank-test.true, counted.items) in
    mass-at t c.at_rank.ensures.lawful rank c.at_rank.result.now in_order c.at_rank.ensures.value

pub loop-rank-preserved : goal.loop-rank-preserved
loop-rank-preserved c =
    let t = c.args.task.now in
    let rank = c.loop-rank.rank in
    let counted = c.candidate_count-rank-end.ensures in
    let in_order : rank < length t.items = omega (arith, c.loop-rank-test.true, counted.items) in
    let in_sets : rank < length c.args.sets.now = omega (arith, c.loop-rank-test.true, counted.sets) in
    let here = c.least_cost-sum.ensures in
    let more = leasts-more t c.args.tariffs.now c.args.sets.now rank c.at_rank.result.now _ _ _ c.least_cost-sum.result in_order in_sets c.at_rank.ensures.value refl here.value c.loop-rank.invariant.value in
    let few = counted.few in
    let so_far = c.loop-rank.invariant.bounded in
    record {
      value = omega (arith, ints, more, here.bounded, so_far, few, c.loop-rank-test.true);
      bounded = omega (arith, ints, here.bounded, so_far, few, c.loop-rank-test.true);
    }
