use Rattle.std.proofs.Common.{◌≡◌, ◌≤◌, unsigned_abs, fold, length, map}
use Rattle.std.specs.Int.{int_min}
use Rattle.hold_reach.specs.Reach.{least}
use Rattle.position_set.specs.Sets.{members}
use Rattle.choice_prices.specs.Tariffs.{cost_by}
use Rattle.choice_prices.proofs.costs.least_cost.Given as goal

abbrev pub invariant-loop-position : goal.invariant-loop-position
invariant-loop-position l = record {
  value : fold int_min l.least (map (cost_by l.tariffs l.mass.0) (members l.rest)) ≡ least (map (cost_by l.tariffs l.mass.0) (members l.fn.set));
  bounded : unsigned_abs l.least ≤ 50000000000000000000;
}

abbrev pub decreases-loop-position : goal.decreases-loop-position
decreases-loop-position l = length (members l.rest)
