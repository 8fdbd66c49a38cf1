use Rattle.choice_prices.proofs.CliqueLemmas.{cliques-right}
use Rattle.choice_prices.proofs.cliques.wrong_clique.Goals as goal

pub returns-clause-none : goal.returns-clause-none
returns-clause-none c = cliques-right c.args.task.now c.args.sets.now c.first_wrong.result (rw c.hold.ensures.value at c.first_wrong.ensures)
