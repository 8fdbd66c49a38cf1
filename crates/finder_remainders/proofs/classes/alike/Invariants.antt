use Rattle.std.proofs.Common.{ℕ, ◌-ℤ◌, take}
use Rattle.std.specs.Prelude.{◌↔◌, IsTrue}
use Rattle.position_set.specs.Sets.{has}
use Rattle.price_trees.specs.Trees.{IsMultiple}
use Rattle.finder_remainders.specs.Remainders.{IsMetBy}
use Rattle.finder_remainders.proofs.classes.alike.Given as goal

abbrev pub invariant-loop-spot : goal.invariant-loop-spot
invariant-loop-spot l = (q : ℕ) → IsTrue (has l.positions q) ↔ IsMetBy (λ other. IsMultiple l.divisor (other -ℤ l.fn.index)) (take l.spot-index l.spots) q
