use Rattle.std.proofs.Common.{◌≡◌, None}
use Rattle.base_words.specs.Lists.{first_below}
use Rattle.hold_limits.specs.Faults.{is_wrong_side_at}
use Rattle.hold_limits.proofs.hold_faults.first_wrong_side.Given as goal

abbrev pub invariant-loop-at : goal.invariant-loop-at
invariant-loop-at l = first_below (is_wrong_side_at l.positions l.sides) l.at ≡ None
