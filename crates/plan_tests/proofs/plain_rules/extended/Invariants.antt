use Rattle.std.proofs.Common.{◌≡◌, take}
use Rattle.plan_tests.proofs.plain_rules.extended.Given as goal

abbrev pub invariant-loop-used : goal.invariant-loop-used
invariant-loop-used l = l.path.items ≡ take l.used-index l.prefix
