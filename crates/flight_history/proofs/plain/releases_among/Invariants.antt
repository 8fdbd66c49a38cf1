use Rattle.std.proofs.Common.{◌≡◌, ◌≤◌, take, []}
use Rattle.flight_history.specs.Plain.{acts_in}
use Rattle.flight_history.specs.Standing.{releases_among}
use Rattle.flight_history.proofs.plain.releases_among.Given as goal

abbrev pub invariant-loop-at : goal.invariant-loop-at
invariant-loop-at l = (l.releases ≡ releases_among l.opened [] (acts_in (take l.at l.entries))) × (l.releases ≤ l.at)
