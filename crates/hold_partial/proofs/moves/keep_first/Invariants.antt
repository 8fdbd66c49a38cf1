use Rattle.std.proofs.Common.{◌≡◌, ◌≤◌, length, take}
use Rattle.hold_partial.proofs.moves.keep_first.Given as goal

abbrev pub invariant-loop-partial : goal.invariant-loop-partial
invariant-loop-partial l = record {
  task : l.partial.task ≡ l.fn.partial.task;
  long : l.count ≤ length l.partial.prefix;
  front : l.partial.prefix ≡ take (length l.partial.prefix) l.fn.partial.prefix;
}

abbrev pub decreases-loop-partial : goal.decreases-loop-partial
decreases-loop-partial l = length l.partial.prefix
