use Rattle.std.proofs.Common.{◌≡◌, take}
use Rattle.hold_partial.proofs.moves.move_to.Given as goal

abbrev pub invariant-loop-rank : goal.invariant-loop-rank
invariant-loop-rank l = record {
  task : l.partial.task ≡ l.fn.partial.task;
  placed : l.partial.prefix ≡ take l.rank l.prefix;
}
