-- More is to be heard.
use Rattle.std.proofs.Common.{IsFalse}
use Rattle.wire_tests.proofs.requests.hear.Given as goal

abbrev pub invariant-loop : goal.invariant-loop
invariant-loop l = IsFalse l.wire.over
