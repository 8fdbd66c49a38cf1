use Rattle.std.proofs.Common.{◌≡◌, ◌+◌, ◌-◌, ◌<◌, ◌≤◌, length, ap, subst, arith}
use Rattle.hold_reach.proofs.LoadLemmas.{mass-at}
use Rattle.hold_reach.proofs.ReachLemmas.{IsSummed, amounts-bounded, summed-next, summed-none, summed-all}
use Rattle.plan_tests.proofs.plain_reach.span_of.Goals as goal

pub returns-in_err-span_of_amounts-clause-value : goal.returns-in_err-span_of_amounts-clause-value
returns-in_err-span_of_amounts-clause-value c =
    let within : c.loop-rank.rank < length c.args.task.now.items = omega (arith, ap length c.items-rank-end.ensures.value) in
    rw c.from_residual.ensures (summed-none c.args.extent c.args.task.now c.args.prefix.now c.loop-rank.rank _ c.loop-rank.span c.at_rank.result.now within c.at_rank.ensures.value c.loop-rank.invariant c.in_err-span_of_amounts.ensures)

pub plus-span-requires-clause-other_bounded : goal.plus-span-requires-clause-other_bounded
plus-span-requires-clause-other_bounded c =
    let t = c.args.task.now in
    let within : c.loop-rank.rank < length t.items = omega (arith, ap length c.items-rank-end.ensures.value) in
    let light = mass-at t c.at_rank.ensures.lawful c.loop-rank.rank c.at_rank.result.now within c.at_rank.ensures.value in
    let bound = amounts-bounded c.args.extent t c.args.prefix.now c.at_rank.result.now c.in_ok-span_of_amounts.field-0 c.at_rank.ensures.lawful light c.in_ok-span_of_amounts.ensures in
    (omega (arith, bound.0), omega (arith, bound.1))

pub loop-rank-preserved : goal.loop-rank-preserved
loop-rank-preserved c =
    let t = c.args.task.now in
    let prefix = c.args.prefix.now in
    let rank = c.loop-rank.rank in
    let within : rank < length t.items = omega (arith, ap length c.items-rank-end.ensures.value) in
    let light = mass-at t c.at_rank.ensures.lawful rank c.at_rank.result.now within c.at_rank.ensures.value in
    let next = summed-next c.args.extent t prefix rank (rank - length prefix) c.loop-rank.span c.in_ok-span_of_amounts.field-0 c.plus-span.result c.at_rank.result.now
    c.at_rank.ensures.lawful within c.at_rank.ensures.value light c.loop-rank.invariant c.in_ok-span_of_amounts.ensures c.plus-span.ensures.low c.plus-span.ensures.high in
    let more : (rank - length prefix) + 1 ≡ (rank + 1) - length prefix = omega arith in
    subst (λ done. IsSummed c.args.extent t prefix (rank + 1) done c.plus-span.result) more next

pub returns-clause-value : goal.returns-clause-value
returns-clause-value c =
    let past : length c.args.task.now.items ≤ c.loop-rank.rank = omega (arith, ap length c.items-rank-end.ensures.value) in
    summed-all c.args.extent c.args.task.now c.args.prefix.now c.loop-rank.rank _ c.loop-rank.span past c.loop-rank.invariant
