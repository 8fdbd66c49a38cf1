-- More is to be heard.
use Rattle.std.proofs.Common.{IsFalse}
use Rattle.wire_echo.proofs.echo.Given as goal

abbrev pub invariant-loop : goal.invariant-loop
invariant-loop g l = IsFalse l.wire.over
