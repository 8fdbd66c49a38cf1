-- two histories that agree on a flight
use Rattle.std.specs.Prelude.{◌≡◌, ℕ, ◌≤◌, Bool, List, [], map, Option, IfSome, All}
use Rattle.trim.specs.declared.figures.Figures.{Figures}
use Rattle.flight_state.specs.declared.state.FlightState.{FlightState}
use Rattle.flight_history.specs.declared.entry.Act.{Act}
use Rattle.flight_history.specs.declared.entry.Act.TheVariants.{Set}
use Rattle.flight_history.specs.declared.entry.Outcome.{Outcome}
use Rattle.flight_history.specs.declared.reply.Refusal.{Refusal}
use Rattle.flight_history.specs.Alone.{Marked, marks, own}
use Rattle.flight_history.specs.Asking.{IsPartWithin}
use Rattle.flight_history.specs.History.{Judged, flight_at}

-- what an entry asks of its flight and how its turn ended, and whether it asks for a new flight of a full office
pub record Asked : Type 0 where
  pub act : Act
  pub outcome : Outcome
  pub of_full : Bool

abbrev pub asked : Marked → Asked
asked m = record { act = m.0.entry.act; outcome = m.0.entry.outcome; of_full = m.1 }

-- what the entries of a flight ask, in order, and the verdicts on them
abbrev pub asked_of : List ℕ → List FlightState → List Judged → List Asked
asked_of key opening history = map asked (own key (marks opening [] history))

abbrev pub verdicts_on : List ℕ → List FlightState → List Judged → List (Option Refusal)
verdicts_on key opening history = map (λ (m : Marked). m.0.verdict) (own key (marks opening [] history))

-- Two histories agree on a flight: both opened with it as the same, or without it, and its own entries ask the same and ended
-- alike. Of the other flights it matters only whether the office was full where this one was asked for
pub record AgreeOn (key : List ℕ) (opening opening' : List FlightState) (history history' : List Judged) : Type 0 where
  pub opened : flight_at opening key ≡ flight_at opening' key
  pub same : asked_of key opening history ≡ asked_of key opening' history'

-- Masses ----------------------------------------------------------------------------------------

-- the flight has a mass at zero fuel, at take-off and at landing: the dry aircraft has one, and the trip burns only fuel that is on
-- board
pub record HasMass (f : Figures) : Type 0 where
  pub dry : 1 ≤ f.dry.mass.0
  pub trip : f.fuel.trip.0 ≤ f.fuel.take_off.0

-- figures that an act tells are within the limits of those of a request
abbrev pub IsActWithin : Act → Type 0
IsActWithin (Set edition told) = IsPartWithin told
IsActWithin _ = Unit {0}

-- a flight that began with a mass, where it was there, and acts within these limits
pub record AreWithin (opened : Option FlightState) (acts : List Act) : Type 0 where
  pub began : IfSome opened (λ (s : FlightState). HasMass s.base)
  pub told : All IsActWithin acts
