use Rattle.std.proofs.Common.{◌≡◌, take, All}
use Rattle.editions.specs.Places.{states}
use Rattle.editions.specs.Sound.{IsKeptFlight}
use Rattle.editions.proofs.starting.flights_of.Given as goal

abbrev pub invariant-loop-state : goal.invariant-loop-state
invariant-loop-state l = (states l.flights.flights ≡ take l.state-index l.opening) × All (IsKeptFlight l.fleet) l.flights.flights
