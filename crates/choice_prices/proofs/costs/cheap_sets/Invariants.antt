use Rattle.std.proofs.Common.{◌≡◌, length, map, take}
use Rattle.position_set.specs.Sets.{members}
use Rattle.price_trees.specs.Prices.{candidates}
use Rattle.choice_prices.specs.Tariffs.{cheap_by}
use Rattle.choice_prices.proofs.costs.cheap_sets.Given as goal

abbrev pub invariant-loop-rank : goal.invariant-loop-rank
invariant-loop-rank l = record {
  count : length l.cheap.items ≡ l.rank;
  value : map members l.cheap.items ≡ map (cheap_by l.tariffs l.slack) (take l.rank (candidates l.task (map members l.sets)));
}
