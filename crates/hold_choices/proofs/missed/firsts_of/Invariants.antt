use Rattle.std.proofs.Common.{◌≡◌, length, map, take}
use Rattle.position_set.specs.declared.set.PositionSet.{PositionSet}
use Rattle.position_set.specs.Sets.{members}
use Rattle.price_trees.specs.Trees.{first}
use Rattle.hold_choices.proofs.missed.firsts_of.Given as goal

abbrev pub invariant-loop-set : goal.invariant-loop-set
invariant-loop-set l = record {
  count : length l.path.items ≡ l.set-index;
  items : l.path.items ≡ map (λ (set : PositionSet). first (members set)) (take l.set-index l.sets);
}
