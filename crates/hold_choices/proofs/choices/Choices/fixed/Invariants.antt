use Rattle.std.proofs.Common.{◌≡◌, ◌++◌, length, map, drop}
use Rattle.position_set.specs.Sets.{members}
use Rattle.price_trees.specs.Narrowing.{fixed}
use Rattle.hold_choices.proofs.choices.Choices.fixed.Given as goal

abbrev pub invariant-loop-rank : goal.invariant-loop-rank
invariant-loop-rank l = record {
  count : length l.sets.items ≡ l.rank;
  so_far : map members l.sets.items ++ fixed (drop l.rank l.prefix) (map members (drop l.rank l.own)) ≡ fixed l.prefix (map members l.own);
}
