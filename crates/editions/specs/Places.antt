-- the flights of an office, each under its key
use Rattle.std.specs.Prelude.{if◌then◌else◌, ◌≡◌, ℕ, ◌+◌, ◌<◌, List, [], ◌∷◌, ◌++◌, length, set, map, bytes_eq, position, Option, None, Some, Ok, is_none, slice_get, IsSomeAnd}
use Rattle.std.specs.Map.{lookup}
use Rattle.std.specs.Ordering.{is_eq, nat_cmp}
use Rattle.std.specs.Cmp.Lexicographic.{slice_cmp}
use Rattle.arrayvec.specs.ArrayVec.{ArrayVec}
use Rattle.flight_state.specs.declared.state.FlightState.{FlightState}
use Rattle.flight_state.specs.Legs.{key_of}
use Rattle.flight_history.specs.History.{flight_at}
use Rattle.flight_history.specs.declared.request.Request.{Request}
use Rattle.flight_history.specs.declared.request.Request.TheVariants.{Install, InstallBest}
use Rattle.editions.specs.declared.flights.Flight.{Flight}

-- the place that a key was given
abbrev pub place_in : List (ArrayVec ℕ × ℕ) → List ℕ → Option ℕ
place_in places key = lookup (λ (k : ArrayVec ℕ). is_eq (slice_cmp nat_cmp key k.items)) places

-- flights in their order, how many more there is room for, and keys with the places that they were given
pub record Table : Type 0 where
  pub flights : List Flight
  pub room : ℕ
  pub places : List (ArrayVec ℕ × ℕ)

-- the key of each flight has its place
abbrev pub IsIndexed : List Flight → (List ℕ → Option ℕ) → Type 0
IsIndexed flights places =
    (i : ℕ) (flight : Flight) → slice_get flights i ≡ Some flight → places (key_of flight.state.leg) ≡ Some i

-- there is room for a flight of this key behind the last
abbrev pub IsReserved : Table → List ℕ → Type 0
IsReserved t key = (0 < t.room) × (place_in t.places key ≡ Some (length t.flights))

-- there is a place for a flight of this key: its own, or one that is reserved behind the last
abbrev pub HasPlace : Table → Option ℕ → List ℕ → Type 0
HasPlace t (Some place) key = Unit {0}
HasPlace t None key = IsReserved t key

-- the flights as they stand
abbrev pub states : List Flight → List FlightState
states flights = map (λ (flight : Flight). flight.state) flights

-- the place of the flight of this key, where it is there
abbrev pub IsPlaceOf : List FlightState → List ℕ → Option ℕ → Type 0
IsPlaceOf flights key place = place ≡ position (λ (s : FlightState). bytes_eq (key_of s.leg) key) flights

-- the flight at a place, if there is one
abbrev pub state_at : List Flight → Option ℕ → Option FlightState
state_at flights None = None
state_at flights (Some i) = slice_get (states flights) i

-- the request installs a plan that was made for the task of the flight at the place
abbrev pub IsPlanAt : List Flight → Option ℕ → Request → Type 0
IsPlanAt flights (Some i) (Install key edition plan) = IsSomeAnd (slice_get flights i) (λ (flight : Flight). flight.task ≡ Ok plan.task)
IsPlanAt flights (Some i) (InstallBest key edition plan) = IsSomeAnd (slice_get flights i) (λ (flight : Flight). flight.task ≡ Ok plan.task)
IsPlanAt flights _ _ = ⊥

-- the flights with this one at the place of another, or behind the last
abbrev pub put_in : List Flight → Option ℕ → Flight → List Flight
put_in flights (Some i) flight = set flights i flight
put_in flights None flight = flights ++ flight ∷ []

-- the flight at the place stands so, with the task that it had
abbrev pub IsRestated : List Flight → ℕ → FlightState → List Flight → Type 0
IsRestated flights place next new = (flight : Flight) → slice_get flights place ≡ Some flight → new ≡ set flights place (record flight { state = next })

-- the flight was put among the others, in place of the one of its key
pub record IsPut (old new : List FlightState) (place : Option ℕ) (next : FlightState) : Type 0 where
  pub found : (key : List ℕ) → flight_at new key ≡ (if bytes_eq (key_of next.leg) key then Some next else flight_at old key)
  pub count : length new ≡ (if is_none place then length old + 1 else length old)
