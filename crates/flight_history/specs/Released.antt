-- when a sheet is released
use Rattle.std.specs.Prelude.{◌≡◌, ℕ, false, List, [], IsSomeAnd}
use Rattle.aircraft_file.specs.Craft.{Craft}
use Rattle.trim.specs.Rules.{AreBroken}
use Rattle.flight_state.specs.declared.state.FlightState.{FlightState}
use Rattle.flight_state.specs.Effective.{effective}
use Rattle.flight_row.specs.Loading.{aircraft_of}
use Rattle.flight_history.specs.Verdict.{is_departed}

-- the flight has not departed, the edition is the newest, and a plan stands with which no rule is broken
pub record MayBeReleased (fleet : List Craft) (s : FlightState) (edition : ℕ) : Type 0 where
  pub here : is_departed s.stage ≡ false
  pub newest : edition ≡ s.edition
  pub kept : IsSomeAnd (aircraft_of fleet s.leg) (λ a. IsSomeAnd s.plan (λ path. AreBroken a (effective s) path.items []))
