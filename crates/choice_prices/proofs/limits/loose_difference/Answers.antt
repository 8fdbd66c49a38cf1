use Rattle.std.proofs.Common.{arith}
use Rattle.std.proofs.lemmas.Int.{ints}
use Rattle.choice_prices.proofs.LimitLemmas.{lateral-alone}
use Rattle.choice_prices.proofs.limits.loose_difference.Goals as goal

pub returns-clause-value : goal.returns-clause-value
returns-clause-value c =
    let difference = c.lateral_difference_of.ensures in
    let alone = lateral-alone c.args.task.now in
    omega (arith, ints, difference.value, difference.bounded, alone)
