use Rattle.std.proofs.Common.{◌≡◌, ◌++◌, [], length, map, take, drop}
use Rattle.position_set.specs.Sets.{members}
use Rattle.price_trees.specs.Prices.{candidates}
use Rattle.price_trees.specs.Narrowing.{left_by}
use Rattle.hold_choices.specs.Passing.{leaves_class_later, IsTakenBy}
use Rattle.hold_choices.proofs.narrowing.left_by_others.Given as goal

abbrev pub invariant-loop-rank : goal.invariant-loop-rank
invariant-loop-rank l = record {
  count : length l.left.items ≡ l.rank;
  taken : IsTakenBy (leaves_class_later l.task) (take l.rank (candidates l.task (map members l.sets))) l.taken;
  so_far : map members l.left.items ++ left_by l.task.hold (take l.rank (candidates l.task (map members l.sets))) (drop l.rank (candidates l.task (map members l.sets)))
      ≡ left_by l.task.hold [] (candidates l.task (map members l.sets));
}
