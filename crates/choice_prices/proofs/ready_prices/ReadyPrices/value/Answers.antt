use Rattle.tree_certificate.specs.Listed.{listed_prices}
use Rattle.choice_prices.proofs.ValueLemmas.{prices-of}
use Rattle.choice_prices.proofs.ready_prices.ReadyPrices.value.Goals as goal

pub returns-clause-of_the_task : goal.returns-clause-of_the_task
returns-clause-of_the_task c =
    let p = c.self.inside.prepared in
    rw (← c.self.view_is) (prices-of p.task.now p.cliques.now (listed_prices p.list.now) c.self.invariant.right)
