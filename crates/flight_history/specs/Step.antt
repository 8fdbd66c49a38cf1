-- what one more accepted act makes of a flight
use Rattle.std.specs.Prelude.{if◌then◌else◌, ◌+◌, min, List, [], ◌∷◌, ◌++◌, Option, None, Some, option_map}
use Rattle.aircraft_file.specs.Craft.{Craft}
use Rattle.trim.specs.declared.figures.Figures.{Figures}
use Rattle.flight_state.specs.declared.state.FlightState.{FlightState}
use Rattle.flight_state.specs.declared.state.Stage.TheVariants.{Working, Planned, Released, Departed}
use Rattle.flight_state.specs.Effective.{effective}
use Rattle.flight_history.specs.declared.entry.Act.{Act}
use Rattle.flight_history.specs.declared.entry.Act.TheVariants.{NewFlight, Set, Take, Install, Release, Late, Reopen, Depart, Show}
use Rattle.flight_history.specs.declared.request.FigurePart.{FigurePart}
use Rattle.flight_history.specs.declared.request.FigurePart.TheVariants as part
use Rattle.flight_row.specs.Loading.{aircraft_of}
use Rattle.flight_history.specs.Fleet.{new_flight}
use Rattle.flight_history.specs.Standing.{is_planned}

-- figures with a part replaced
abbrev pub replaced : Figures → FigurePart → Figures
replaced f (part.Dry dry) = record f { dry = dry }
replaced f (part.Fuel fuel) = record f { fuel = fuel }
replaced f (part.Limits limits) = record f { regulated = limits }
replaced f (part.Cabin cabin) = record f { cabin = cabin }
replaced f (part.Containers containers) = record f { containers = containers }
replaced f (part.Loose loose) = record f { loose = loose }

-- a flight that is worked on: its late changes are folded into its figures, and it has no plan
abbrev pub worked_on : FlightState → FlightState
worked_on s = record s { stage = Working; base = effective s; plan = None; lmcs = [] }

-- a flight that is there, after an act that was accepted; no flight is opened twice
abbrev pub step : FlightState → Act → FlightState
step s (NewFlight leg) = worked_on s
step s (Set edition told) = record s { edition = s.edition + 1; stage = Working; base = replaced (effective s) told; plan = None; lmcs = [] }
step s (Take edition) = s
step s (Install edition path same) = record s { stage = Planned; base = effective s; plan = Some path; lmcs = [] }
step s (Release edition) = record s { stage = Released; releases = (if is_planned s.stage then min (s.releases + 1) 1000000000 else s.releases) }
step s (Late edition lmc) = record s { edition = s.edition + 1; lmcs = s.lmcs ++ lmc ∷ [] }
step s (Reopen edition) = record s { edition = s.edition + 1; stage = Working; base = effective s; plan = None; lmcs = [] }
step s (Depart edition) = record s { stage = Departed }
step s (Show what) = s

-- the same of a flight, or of none
abbrev pub after : List Craft → Option FlightState → Act → Option FlightState
after fleet None (NewFlight leg) = option_map (λ a. new_flight a leg) (aircraft_of fleet leg)
after fleet None _ = None
after fleet (Some s) act = Some (step s act)
