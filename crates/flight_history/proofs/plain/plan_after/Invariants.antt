use Rattle.std.proofs.Common.{◌≡◌, take}
use Rattle.flight_history.specs.Plain.{acts_in}
use Rattle.flight_history.specs.Standing.{plan_after}
use Rattle.flight_history.proofs.plain.plan_after.Given as goal

abbrev pub invariant-loop-entry : goal.invariant-loop-entry
invariant-loop-entry l = l.plan ≡ plan_after l.opened (acts_in (take l.entry-index l.entries))
