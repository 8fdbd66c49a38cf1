use Rattle.std.proofs.Common.{◌≡◌, take, map}
use Rattle.position_set.specs.Sets.{members}
use Rattle.hold_choices.proofs.choices.are_same.Given as goal

abbrev pub invariant-loop-rank : goal.invariant-loop-rank
invariant-loop-rank l = map members (take l.rank l.sets) ≡ map members (take l.rank l.others)
