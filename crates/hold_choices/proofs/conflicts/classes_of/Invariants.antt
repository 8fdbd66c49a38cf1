use Rattle.std.proofs.Common.{◌≡◌, length, map, take}
use Rattle.hold_limits.specs.BranchOrder.{ordered}
use Rattle.hold_limits.specs.Twins.{first_twin}
use Rattle.hold_choices.proofs.conflicts.classes_of.Given as goal

abbrev pub invariant-loop-rank : goal.invariant-loop-rank
invariant-loop-rank l = record {
  count : length l.classes.items ≡ l.rank;
  items : l.classes.items ≡ map (first_twin l.task) (take l.rank (ordered l.task.items));
}
