-- what holds of each flight of an office, and of the acts that its requests make
use Rattle.std.specs.Prelude.{◌≡◌, ◌≢◌, true, List, Some, Result, Ok, Err}
use Rattle.hold_limits.specs.Placement.{IsBest}
use Rattle.hold_limits.specs.Problem.{Problem}
use Rattle.aircraft_file.specs.Craft.{Craft}
use Rattle.aircraft_file.specs.Lawful.{IsLawfulCraft}
use Rattle.trim.specs.declared.fault.TrimFault.{TrimFault}
use Rattle.trim.specs.declared.fault.TrimFault.TheVariants.{NoMemory}
use Rattle.trim.specs.Refusals.{IsTaskOf, IsRefused}
use Rattle.flight_state.specs.declared.state.FlightState.{FlightState}
use Rattle.flight_state.specs.Effective.{effective}
use Rattle.flight_row.specs.Loading.{aircraft_of, HasRow, KeepsPlan}
use Rattle.flight_history.specs.declared.entry.Act.{Act}
use Rattle.flight_history.specs.declared.entry.Act.TheVariants.{Set, Install}
use Rattle.editions.specs.Acts.{IsPartWithin}
use Rattle.editions.specs.declared.flights.Flight.{Flight}

-- a flight with this aircraft has a row, and its plan holds
pub record IsReady (a : Craft) (s : FlightState) : Type 0 where
  pub row : HasRow a s
  pub plan : KeepsPlan a s

-- its aircraft is in the fleet
pub record IsSound (fleet : List Craft) (s : FlightState) : Type 0 where
  pub aircraft : Craft
  pub found : aircraft_of fleet s.leg ≡ Some aircraft
  pub lawful : IsLawfulCraft aircraft
  pub ready : IsReady aircraft s

-- the task of its effective figures, or the reason for which there is none
abbrev pub IsTaskAnswer : Craft → FlightState → Result Problem TrimFault → Type 0
IsTaskAnswer a s (Ok task) = IsTaskOf a (effective s) task
IsTaskAnswer a s (Err fault) = IsRefused a (effective s) fault × (fault ≢ NoMemory)

-- a flight as the office keeps it: sound, and with its task
pub record IsKeptFlight (fleet : List Craft) (flight : Flight) : Type 0 where
  pub sound : IsSound fleet flight.state
  pub task : IsTaskAnswer sound.aircraft flight.state flight.task

-- an act that may come to a flight with this aircraft: figures that it tells are within limits, and a plan that it has for
-- the task of the flight is the best one
abbrev pub IsLawfulAct : Craft → FlightState → Act → Type 0
IsLawfulAct a s (Set edition told) = IsPartWithin told
IsLawfulAct a s (Install edition path same) = same ≡ true → (task : Problem) × IsTaskOf a (effective s) task × IsBest task path.items
IsLawfulAct a s _ = Unit {0}
