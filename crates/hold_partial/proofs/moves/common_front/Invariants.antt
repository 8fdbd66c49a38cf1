use Rattle.std.proofs.Common.{◌≡◌, ◌-◌, ◌≤◌, length, take}
use Rattle.hold_partial.proofs.moves.common_front.Given as goal

abbrev pub invariant-loop-common : goal.invariant-loop-common
invariant-loop-common l = record {
  within : l.common ≤ length l.one;
  within_other : l.common ≤ length l.other;
  same : take l.common l.one ≡ take l.common l.other;
}

abbrev pub decreases-loop-common : goal.decreases-loop-common
decreases-loop-common l = length l.one - l.common
