use Rattle.std.proofs.Common.{◌≡◌, ◌≤◌, take}
use Rattle.std.specs.Prelude.{count_by}
use Rattle.flight_history.specs.Plain.{acts_in}
use Rattle.flight_history.specs.Standing.{raises_edition}
use Rattle.flight_history.proofs.plain.raises_among.Given as goal

abbrev pub invariant-loop-entry : goal.invariant-loop-entry
invariant-loop-entry l = (l.raises ≡ count_by raises_edition (acts_in (take l.entry-index l.entries))) × (l.raises ≤ l.entry-index)
