-- what stays aboard, as a task sees it: containers with their positions, and loose loads
use Rattle.std.specs.Prelude.{ℕ, List, [], ◌∷◌, length, flat_map}
use Rattle.std.specs.Option.{option_map_or}
use Rattle.hold_parts.specs.declared.parts.Loose.{Loose}
use Rattle.hold_parts.specs.declared.parts.Position.{Position}
use Rattle.hold_parts.specs.Names.{number_named}
use Rattle.hold_limits.specs.Placement.{Placed}
use Rattle.ldm_cpm.specs.Messages.{Placing}

-- the number of the place's position, and one that no position has where the hold has none of that name
abbrev pub place_number : List Position → Placing → ℕ
place_number positions p = option_map_or (λ (n : ℕ). n) (number_named positions p.name) (length positions)

-- a container of this identity on the place, with its position
abbrev pub standing : List Position → Placing → List ℕ → Placed
standing positions p id = (record { id = id; mass = p.mass }, place_number positions p)

-- the mass on the place as a loose load on its position
abbrev pub lying : List Position → Placing → Loose
lying positions p = record { position = place_number positions p; mass = p.mass }

-- the container on a place, with its position, where one stands there
abbrev pub container_on : List Position → Placing → List Placed
container_on positions p = option_map_or (λ (id : List ℕ). standing positions p id ∷ []) p.id []

-- the loose load on a place, where no container stands there
abbrev pub load_on : List Position → Placing → List Loose
load_on positions p = option_map_or (λ (id : List ℕ). []) p.id (lying positions p ∷ [])

abbrev pub staying_containers : List Position → List Placing → List Placed
staying_containers positions stay = flat_map (container_on positions) stay

abbrev pub staying_loads : List Position → List Placing → List Loose
staying_loads positions stay = flat_map (load_on positions) stay
