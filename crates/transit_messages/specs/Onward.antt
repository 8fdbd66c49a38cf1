-- the onward container message: what stays as it came in, and what is loaded here for the next station
use Rattle.std.specs.Prelude.{◌≡◌, ℕ, ◌<◌, Bool, ◌==◌, ◌&&◌, nat_lt, Some, None, List, map, find, bytes_eq, All, Contains, IsSomeAnd, slice_get}
use Rattle.std.specs.List.{enumerate_from}
use Rattle.std.specs.Option.{option_map_or}
use Rattle.hold_parts.specs.declared.parts.Item.{Item}
use Rattle.hold_parts.specs.declared.parts.Loose.{Loose}
use Rattle.hold_parts.specs.declared.parts.Position.{Position}
use Rattle.hold_limits.specs.Placement.{Placed, placed}
use Rattle.hold_limits.specs.Problem.{Problem}
use Rattle.ldm_cpm.specs.Messages.{Heading, Placing, HoldMessage}

-- what is said of a position where nothing is on it; where a container of this task is; and where a loose load is
abbrev pub empty_on : Position → Placing
empty_on q = record { name = q.name; id = None; destination = None; mass = record { 0 = 0 } }

abbrev pub container_for : List ℕ → Position → Item → Placing
container_for next q item = record { name = q.name; id = Some item.id; destination = Some next; mass = item.mass }

abbrev pub load_for : List ℕ → Position → Loose → Placing
load_for next q load = record { name = q.name; id = None; destination = Some next; mass = load.mass }

-- the loose load that the task has on the position, where that weighs anything
abbrev pub weighs_on : ℕ → Loose → Bool
weighs_on number load = (load.position == number) && nat_lt 0 load.mass.0

abbrev pub loose_placing : List ℕ → List Loose → ℕ → Position → Placing
loose_placing next loose number q = option_map_or (load_for next q) (find (weighs_on number) loose) (empty_on q)

-- what is loaded here on the position with this number
abbrev pub stands_on : ℕ → Placed → Bool
stands_on number p = p.1 == number

abbrev pub loaded_placing : List ℕ → List Placed → List Loose → ℕ → Position → Placing
loaded_placing next containers loose number q =
    option_map_or (λ (p : Placed). container_for next q p.0) (find (stands_on number) containers) (loose_placing next loose number q)

-- what stays on the position, or else what is loaded here
abbrev pub is_named : List ℕ → Placing → Bool
is_named name p = bytes_eq p.name name

abbrev pub onward_placing : List ℕ → List Placing → List Placed → List Loose → ℕ × Position → Placing
onward_placing next stay containers loose at =
    option_map_or (λ (p : Placing). p) (find (is_named at.1.name) stay) (loaded_placing next containers loose at.0 at.1)

-- the positions of the hold from nose to tail, each with what is on it
abbrev pub onward_placings : List ℕ → List Placing → Problem → List ℕ → List Placing
onward_placings next stay t path = map (onward_placing next stay (placed t path) t.loose) (enumerate_from 0 t.hold.positions)

-- the message of the flight with which it goes on to the next station
abbrev pub onward_message : Heading → List ℕ → List Placing → Problem → List ℕ → HoldMessage
onward_message heading next stay t path = record { heading = heading; places = onward_placings next stay t path }

-- each container of the path, and each loose load that weighs anything, is said to be on its position
pub record Carries (next : List ℕ) (t : Problem) (path : List ℕ) (places : List Placing) : Type 0 where
  pub containers : All (λ (p : Placed). IsSomeAnd (slice_get t.hold.positions p.1) (λ q. Contains places (container_for next q p.0))) (placed t path)
  pub loads : All (λ (load : Loose). 0 < load.mass.0 → IsSomeAnd (slice_get t.hold.positions load.position) (λ q. Contains places (load_for next q load))) t.loose

-- each placing of what stays is among the places, and a place of its name is no other
pub record Keeps (stay places : List Placing) : Type 0 where
  pub among : All (Contains places) stay
  pub once : All (λ (p : Placing). All (λ (kept : Placing). p.name ≡ kept.name → p ≡ kept) stay) places
