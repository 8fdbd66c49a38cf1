use Rattle.std.proofs.Common.{map, take}
use Rattle.position_set.specs.Sets.{members}
use Rattle.price_trees.specs.Prices.{candidates}
use Rattle.hold_choices.specs.Remainders.{IsCommonDivisor}
use Rattle.hold_choices.proofs.missed.divisor_of.Given as goal

abbrev pub invariant-loop-rank : goal.invariant-loop-rank
invariant-loop-rank l = IsCommonDivisor l.task.hold (take l.rank (candidates l.task (map members l.sets))) l.divisor
