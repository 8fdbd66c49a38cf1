use Rattle.std.proofs.Common.{arith}
use Rattle.std.proofs.lemmas.Int.{ints}
use Rattle.choice_prices.proofs.LimitLemmas.{index-alone}
use Rattle.choice_prices.proofs.worth.loose_moment_from.Goals as goal

pub returns-in-Low-clause-value : goal.returns-in-Low-clause-value
returns-in-Low-clause-value c =
    let alone = index-alone c.args.task.now in
    let index = c.hold_index_of.ensures in
    rw c.in-Low.is (omega (arith, ints, alone, index.value, index.bounded, c.from-moment.ensures))

pub returns-in-High-clause-value : goal.returns-in-High-clause-value
returns-in-High-clause-value c =
    let alone = index-alone c.args.task.now in
    let index = c.hold_index_of.ensures in
    rw c.in-High.is (omega (arith, ints, alone, index.value, index.bounded, c.from-moment.ensures))
