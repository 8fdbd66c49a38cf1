-- the rows that are kept after a history
use Rattle.std.specs.Prelude.{◌≡◌, ℕ, List, [], ◌∷◌, ◌++◌, if◌then◌else◌, Bool, false, ◌||◌, Option, IfSome}
use Rattle.std.specs.Option.{option_and_then}
use Rattle.aircraft_file.specs.Craft.{Craft}
use Rattle.flight_state.specs.declared.state.FlightState.{FlightState}
use Rattle.keeper.specs.declared.row.KeptRow.{KeptRow}
use Rattle.keeper.specs.Tables.{Tables, bytes_under}
use Rattle.flight_history.specs.declared.entry.Act.{Act}
use Rattle.flight_history.specs.Standing.{standing}
use Rattle.flight_history.specs.Verdict.{commits}
use Rattle.flight_history.specs.History.{Judged, acts_of, flight_at, standing_of}
use Rattle.flight_history.specs.Replies.{row_bytes}

-- some of these accepted acts of a flight commits, after those before
abbrev pub any_commits : List Craft → Option FlightState → List Act → List Act → Bool
any_commits fleet opened before [] = false
any_commits fleet opened before (act ∷ acts) =
    commits (standing fleet opened before) act || any_commits fleet opened (before ++ act ∷ []) acts

-- the bytes under a key after a history: the row of a flight that was committed, and what was loaded elsewhere
abbrev pub kept_at : List Craft → List KeptRow → List FlightState → List Judged → Tables
kept_at fleet rows opening history key =
    if any_commits fleet (flight_at opening key) [] (acts_of key history)
    then option_and_then (row_bytes fleet) (standing_of fleet opening history key)
    else bytes_under rows key

-- tables that are exposed are those after the history
abbrev pub AreKept : List Craft → List KeptRow → List FlightState → List Judged → Option Tables → Type 0
AreKept fleet rows opening history exposed = IfSome exposed (λ held. (key : List ℕ) → held key ≡ kept_at fleet rows opening history key)
