use Rattle.std.proofs.Common.{length, ap, arith}
use Rattle.choice_prices.proofs.CostLemmas.{length-candidates}
use Rattle.choice_prices.proofs.costs.candidate_count.Goals as goal

pub returns-clause-value : goal.returns-clause-value
returns-clause-value c =
    let counted = length-candidates c.args.task.now c.args.sets.now in
    let items = ap length c.items.ensures.value in
    omega (arith, counted, items, c.min.ensures)
