use Rattle.std.proofs.Common.{◌≡◌, ◌≤◌, ◌*◌, unsigned_abs, map, take}
use Rattle.base_words.specs.Lists.{int_sum_by}
use Rattle.position_set.specs.Sets.{members}
use Rattle.price_trees.specs.Prices.{candidates}
use Rattle.choice_prices.specs.Tariffs.{least_by}
use Rattle.choice_prices.proofs.costs.least_costs.Given as goal

abbrev pub invariant-loop-rank : goal.invariant-loop-rank
invariant-loop-rank l = record {
  value : l.sum ≡ int_sum_by (least_by l.tariffs) (take l.rank (candidates l.task (map members l.sets)));
  bounded : unsigned_abs l.sum ≤ l.rank * 50000000000000000000;
}
