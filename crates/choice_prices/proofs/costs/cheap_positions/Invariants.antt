use Rattle.std.proofs.Common.{◌-ℤ◌, length}
use Rattle.std.specs.Prelude.{int_le}
use Rattle.position_set.specs.Sets.{members}
use Rattle.choice_prices.specs.Tariffs.{cost_by}
use Rattle.choice_prices.proofs.CostLemmas.{IsSifted}
use Rattle.choice_prices.proofs.costs.cheap_positions.Given as goal

abbrev pub invariant-loop-position : goal.invariant-loop-position
invariant-loop-position l = IsSifted (λ p. int_le (cost_by l.tariffs l.mass.0 p -ℤ l.least) l.slack) (members l.fn.set) l.rest l.cheap

abbrev pub decreases-loop-position : goal.decreases-loop-position
decreases-loop-position l = length (members l.rest)
