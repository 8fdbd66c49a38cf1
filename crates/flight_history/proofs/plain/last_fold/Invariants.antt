use Rattle.std.proofs.Common.{take}
use Rattle.flight_history.specs.Plain.{IsLastFold}
use Rattle.flight_history.proofs.plain.last_fold.Given as goal

abbrev pub invariant-loop-at : goal.invariant-loop-at
invariant-loop-at l = IsLastFold (take l.at l.entries) l.place
