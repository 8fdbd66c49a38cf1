use Rattle.std.proofs.Common.{◌≡◌, ◌++◌, take}
use Rattle.flight_history.specs.Plain.{acts_in}
use Rattle.flight_history.specs.Standing.{lates_in}
use Rattle.flight_history.proofs.plain.lates_then.Given as goal

abbrev pub invariant-loop-entry : goal.invariant-loop-entry
invariant-loop-entry l = l.lates ≡ l.fn.first ++ lates_in (acts_in (take l.entry-index l.entries))
