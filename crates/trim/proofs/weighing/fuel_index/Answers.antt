use Rattle.trim.proofs.BoundLemmas.{fuel-bound}
use Rattle.trim.proofs.weighing.fuel_index.Goals as goal

pub returns-in-Some-clause-bounded : goal.returns-in-Some-clause-bounded
returns-in-Some-clause-bounded c =
    fuel-bound c.args.a.now.fuel c.args.fuel.0 c.in-Some.added.0 c.fuel.ensures.lawful.limits.fuel (rw c.fuel.ensures.value at c.in-Some.ensures.some)
