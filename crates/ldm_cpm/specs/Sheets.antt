-- what the messages of a sheet say
use Rattle.std.specs.Prelude.{ℕ, zero, suc, ◌==◌, nat_lt, ◌&&◌, if◌then◌else◌, Option, Some, None, List, [], ◌∷◌, ◌++◌, map, sum_by}
use Rattle.std.specs.List.{flat_map}
use Rattle.mass_units.specs.declared.Kg.{Kg}
use Rattle.telex.specs.Elements.{Element}
use Rattle.last_minute.specs.declared.sheet.Place.{Place}
use Rattle.last_minute.specs.declared.sheet.Sheet.{Sheet}
use Rattle.ldm_cpm.specs.Messages.{Heading, OnBoard, LoadMessage, Placing, HoldMessage, content_elements}

abbrev pub heading_on : Sheet → Heading
heading_on s =
    record { flight = s.leg.flight; day = s.leg.day; registration = s.leg.registration; version = s.version }

-- elements that follow others, as bytes
abbrev pub marked : List Element → List ℕ
marked elements = flat_map (λ (e : Element). e.0 ∷ e.1) elements

-- the mass on the positions of a compartment
abbrev pub mass_in : ℕ → List Place → ℕ
mass_in compartment places = sum_by (λ (p : Place). if p.compartment == compartment then p.mass.0 else 0) places

-- a compartment with its mass, if it carries any
abbrev pub load_in : ℕ → List Place → List (ℕ × Kg)
load_in compartment places =
    if nat_lt 0 (mass_in compartment places) then (compartment, record { 0 = mass_in compartment places }) ∷ [] else []

-- the compartments below a number that carry something, rising, with their masses
unfoldable pub loads_below : ℕ → List Place → List (ℕ × Kg)
loads_below zero places = []
loads_below (suc compartment) places = loads_below compartment places ++ load_in compartment places

-- what is on board
abbrev pub board_on : Sheet → OnBoard
board_on s = record {
  destination = s.leg.destination;
  adults = s.adults;
  children = s.children;
  infants = s.infants;
  loads = loads_below 256 s.places;
}

-- the load message of a sheet
abbrev pub ldm_of : Sheet → LoadMessage
ldm_of s = record {
  heading = heading_on s;
  cockpit = s.dry.cockpit;
  cabin = s.dry.attendants;
  board = board_on s;
}

-- what a message says of a position without a container: a bulk position may have a loose load, any other has nothing
abbrev pub loose_placing : List ℕ → Place → Placing
loose_placing destination p =
    if p.bulk && nat_lt 0 p.mass.0 then record { name = p.name; id = None; destination = Some destination; mass = p.mass }
    else record { name = p.name; id = None; destination = None; mass = record { 0 = 0 } }

-- what it says of a position
abbrev pub placing_with : List ℕ → Place → Option (List ℕ) → Placing
placing_with destination p (Some id) = record { name = p.name; id = Some id; destination = Some destination; mass = p.mass }
placing_with destination p None = loose_placing destination p

abbrev pub placing_of : List ℕ → Place → Placing
placing_of destination p = placing_with destination p p.id

-- the elements that follow the name of a position without a container, and of any position
abbrev pub loose_elements : List ℕ → Place → List Element
loose_elements destination p = content_elements (loose_placing destination p).id (loose_placing destination p).destination (loose_placing destination p).mass.0

abbrev pub elements_on : List ℕ → Place → Option (List ℕ) → List Element
elements_on destination p id = content_elements (placing_with destination p id).id (placing_with destination p id).destination (placing_with destination p id).mass.0

-- the container message of a sheet
abbrev pub cpm_of : Sheet → HoldMessage
cpm_of s = record { heading = heading_on s; places = map (placing_of s.leg.destination) s.places }
