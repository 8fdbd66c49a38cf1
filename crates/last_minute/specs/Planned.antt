-- flights with a plan
use Rattle.std.specs.Prelude.{◌≡◌, ℕ, List, [], length, option_map, unwrap_or, IsSome}
use Rattle.arrayvec.specs.ArrayVec.{ArrayVec}
use Rattle.aircraft_file.specs.Craft.{Craft}
use Rattle.trim.specs.Refusals.{CanBeWeighed}
use Rattle.flight_state.specs.Effective.{effective, KeepsLimits}
use Rattle.flight_state.specs.declared.state.FlightState.{FlightState}

-- the positions of a flight's containers, where it has a plan
abbrev pub path_of : FlightState → List ℕ
path_of s = unwrap_or (option_map (λ (path : ArrayVec ℕ). path.items) s.plan) []

-- a flight with a position for each container, whose figures with the late changes have masses and indices
pub record HasBalance (a : Craft) (s : FlightState) : Type 0 where
  pub limits : KeepsLimits s
  pub plan : IsSome s.plan
  pub complete : length (path_of s) ≡ length s.base.containers
  pub weighed : CanBeWeighed a (effective s)
