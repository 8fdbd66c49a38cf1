use Rattle.std.proofs.Common.{◌≡◌}
use Rattle.price_tests.proofs.brackets.told_after.Given as goal

abbrev pub invariant-loop-position : goal.invariant-loop-position
invariant-loop-position l = l.bracket.task ≡ l.partial.task
