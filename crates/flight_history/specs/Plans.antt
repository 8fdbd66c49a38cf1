-- the plans that a history installed
use Rattle.std.specs.Prelude.{◌≡◌, true, List, [], ◌∷◌, ◌++◌, Option, IsSomeAnd}
use Rattle.hold_limits.specs.Placement.{IsBest}
use Rattle.hold_limits.specs.Problem.{Problem}
use Rattle.aircraft_file.specs.Craft.{Craft}
use Rattle.flight_state.specs.declared.state.FlightState.{FlightState}
use Rattle.flight_history.specs.declared.entry.Act.{Act}
use Rattle.flight_history.specs.declared.entry.Act.TheVariants.{Install}
use Rattle.flight_history.specs.Verdict.{IsTaskFor}
use Rattle.flight_history.specs.History.{Judged, is_accepted, standing_of}

-- the path that the act installs is the best one for the task of the flight's effective figures
abbrev pub IsBestAt : List Craft → Option FlightState → Act → Type 0
IsBestAt fleet s (Install edition path same) = IsSomeAnd s (λ t. (task : Problem) × IsTaskFor fleet t task × IsBest task path.items)
IsBestAt fleet s _ = Unit {0}

-- so is the path of each accepted Install among these entries, by its flight as it stood before
abbrev pub InstallsAreBest : List Craft → List FlightState → List Judged → List Judged → Type 0
InstallsAreBest fleet opening history [] = Unit {0}
InstallsAreBest fleet opening history (j ∷ js) =
    (is_accepted j ≡ true → IsBestAt fleet (standing_of fleet opening history j.entry.key) j.entry.act)
    × InstallsAreBest fleet opening (history ++ j ∷ []) js
