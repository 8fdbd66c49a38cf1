use Rattle.assignment.specs.Costs.{MayStand, cost_in}
use Rattle.assignment.proofs.WeakDuality.{lower-bounds, upper-bounds}
use Rattle.assignment.proofs.laws.price_laws.Goals as goal

pub returns-clause-lower : goal.returns-clause-lower
returns-clause-lower c = λ candidates influences. lower-bounds MayStand (cost_in influences) candidates

pub returns-clause-upper : goal.returns-clause-upper
returns-clause-upper c = λ candidates influences. upper-bounds MayStand (cost_in influences) candidates
