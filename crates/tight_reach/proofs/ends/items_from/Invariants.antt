use Rattle.std.proofs.Common.{◌≡◌, map, take}
use Rattle.assignment_prices.specs.Steps.{counted_from}
use Rattle.tight_reach.proofs.ends.items_from.Given as goal

abbrev pub invariant-loop-at : goal.invariant-loop-at
invariant-loop-at l = l.counted.items ≡ map (counted_from l.end) (take l.at l.prices.items)
