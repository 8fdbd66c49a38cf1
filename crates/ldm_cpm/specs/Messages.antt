-- the texts of the two messages
use Rattle.std.specs.Prelude.{◌≡◌, ◌≢◌, true, ℕ, ◌+◌, ◌<◌, ◌≤◌, Option, Some, None, List, [], ◌∷◌, ◌++◌, length, map, sum_by, All, AllPairs, codes}
use Rattle.std.specs.List.{flat_map}
use Rattle.mass_units.specs.Spelling.{number_text, IsNumber}
use Rattle.mass_units.specs.declared.Kg.{Kg}
use Rattle.hold_parts.specs.Spellings.{IsName, IsUldId}
use Rattle.aircraft_file.specs.Spellings.{is_registration, is_version}
use Rattle.flight_state.specs.Spellings.{is_flight_name, is_day, is_station}
use Rattle.text_lines.specs.Lines.{text_of}
use Rattle.telex.specs.Elements.{Element, first, dotted, slashed, line_text}

-- Flights ---------------------------------------------------------------------------------------

-- which flight a message is about
pub record Heading : Type 0 where
  pub flight : List ℕ
  pub day : List ℕ
  pub registration : List ℕ
  pub version : List ℕ

pub record IsSpelledHeading (h : Heading) : Type 0 where
  pub flight : is_flight_name h.flight ≡ true
  pub day : is_day h.day ≡ true
  pub registration : is_registration h.registration ≡ true
  pub version : is_version h.version ≡ true

-- `XX210/12.DAIAB.Y150`
abbrev pub heading_elements : Heading → List Element
heading_elements h = first h.flight ∷ slashed h.day ∷ dotted h.registration ∷ dotted h.version ∷ []

-- Load messages ---------------------------------------------------------------------------------

-- what is on board for a destination
pub record OnBoard : Type 0 where
  pub destination : List ℕ
  pub adults : ℕ
  pub children : ℕ
  pub infants : ℕ
  -- compartments with their masses
  pub loads : List (ℕ × Kg)

-- what a load message says: the flight with its crew in the cockpit and in the cabin, and what is on board
pub record LoadMessage : Type 0 where
  pub heading : Heading
  pub cockpit : ℕ
  pub cabin : ℕ
  pub board : OnBoard

-- `XX210/12.DAIAB.Y150.2/4`
abbrev pub crew_elements : Heading → ℕ → ℕ → List Element
crew_elements h cockpit cabin = heading_elements h ++ (dotted (number_text cockpit) ∷ slashed (number_text cabin) ∷ [])

-- `.1/1000`
abbrev pub load_elements : ℕ × Kg → List Element
load_elements load = dotted (number_text load.0) ∷ slashed (number_text load.1.0) ∷ []

-- `.PAX/130`
abbrev pub seat_elements : List ℕ → List Element
seat_elements seats = dotted (codes "PAX") ∷ slashed seats ∷ []

-- the mass in all compartments
abbrev pub total : List (ℕ × Kg) → ℕ
total loads = sum_by (λ load. load.1.0) loads

-- `-ARN.120/10/3.T2120.1/1000.4/800.5/320.PAX/130`
abbrev pub board_elements : OnBoard → List Element
board_elements m =
    first (codes "-" ++ m.destination)
    ∷ dotted (number_text m.adults) ∷ slashed (number_text m.children) ∷ slashed (number_text m.infants)
    ∷ dotted (codes "T" ++ number_text (total m.loads))
    ∷ (flat_map load_elements m.loads ++ seat_elements (number_text (m.adults + m.children)))

abbrev pub ldm_lines : LoadMessage → List (List ℕ)
ldm_lines m = codes "LDM" ∷ line_text (crew_elements m.heading m.cockpit m.cabin) ∷ line_text (board_elements m.board) ∷ []

abbrev pub ldm_text : LoadMessage → List ℕ
ldm_text m = text_of (ldm_lines m)

-- the compartments rise from this number on, each is a digit, and each has a mass
abbrev pub AreLoads : ℕ → List (ℕ × Kg) → Type 0
AreLoads least [] = Unit {0}
AreLoads least (load ∷ more) = (least ≤ load.0) × (load.0 ≤ 9) × (0 < load.1.0) × IsNumber load.1.0 × AreLoads (load.0 + 1) more

-- what is on board can be spelled
pub record IsSpelledBoard (m : OnBoard) : Type 0 where
  pub destination : is_station m.destination ≡ true
  pub adults : IsNumber m.adults
  pub children : IsNumber m.children
  pub infants : IsNumber m.infants
  pub loads : AreLoads 0 m.loads
  pub total : IsNumber (total m.loads)
  pub seats : IsNumber (m.adults + m.children)

-- each part of a load message can be spelled
pub record IsSpelledLdm (m : LoadMessage) : Type 0 where
  pub heading : IsSpelledHeading m.heading
  pub cockpit : m.cockpit ≤ 99
  pub cabin : m.cabin ≤ 99
  pub board : IsSpelledBoard m.board

-- the text is the load message
pub record IsLdm (text : List ℕ) (m : LoadMessage) : Type 0 where
  pub spelled : IsSpelledLdm m
  pub is : text ≡ ldm_text m

-- Container messages ----------------------------------------------------------------------------

-- what a container message says of a position: its name, the container on it, where what is on it goes, and the mass
pub record Placing : Type 0 where
  pub name : List ℕ
  pub id : Option (List ℕ)
  pub destination : Option (List ℕ)
  pub mass : Kg

-- a container message: the flight, and the positions of its hold
pub record HoldMessage : Type 0 where
  pub heading : Heading
  pub places : List Placing

-- `/AKE10001XX/ARN/1000` for a container, `/ARN/320` for a loose load, and `/N` for nothing
abbrev pub content_elements : Option (List ℕ) → Option (List ℕ) → ℕ → List Element
content_elements (Some id) (Some destination) mass = slashed id ∷ slashed destination ∷ slashed (number_text mass) ∷ []
content_elements None (Some destination) mass = slashed destination ∷ slashed (number_text mass) ∷ []
content_elements None None mass = slashed (codes "N") ∷ []
content_elements (Some id) None mass = []

-- `-11/AKE10001XX/ARN/1000`
abbrev pub place_elements : Placing → List Element
place_elements p = first (codes "-" ++ p.name) ∷ content_elements p.id p.destination p.mass.0

abbrev pub place_lines : List Placing → List (List ℕ)
place_lines places = map (λ (p : Placing). line_text (place_elements p)) places

abbrev pub cpm_lines : HoldMessage → List (List ℕ)
cpm_lines m = codes "CPM" ∷ line_text (heading_elements m.heading) ∷ place_lines m.places

abbrev pub cpm_text : HoldMessage → List ℕ
cpm_text m = text_of (cpm_lines m)

-- a container may weigh nothing, a loose load may not; where there is nothing there is no mass
abbrev pub IsSpelledContent : Option (List ℕ) → Option (List ℕ) → ℕ → Type 0
IsSpelledContent (Some id) (Some destination) mass = IsUldId id × (is_station destination ≡ true) × IsNumber mass
IsSpelledContent None (Some destination) mass = (is_station destination ≡ true) × (0 < mass) × IsNumber mass
IsSpelledContent None None mass = mass ≡ 0
IsSpelledContent (Some id) None mass = ⊥

pub record IsSpelledPlacing (p : Placing) : Type 0 where
  pub name : IsName p.name
  pub content : IsSpelledContent p.id p.destination p.mass.0

-- positions with different names, 64 at most
pub record AreSpelledPlacings (places : List Placing) : Type 0 where
  pub spelled : All IsSpelledPlacing places
  pub differ : AllPairs (λ (a b : Placing). a.name ≢ b.name) places
  pub few : length places ≤ 64

-- each part of a container message can be spelled; it has at least one position
pub record IsSpelledCpm (m : HoldMessage) : Type 0 where
  pub heading : IsSpelledHeading m.heading
  pub places : AreSpelledPlacings m.places
  pub some : 1 ≤ length m.places

-- the text is the container message
pub record IsCpm (text : List ℕ) (m : HoldMessage) : Type 0 where
  pub spelled : IsSpelledCpm m
  pub is : text ≡ cpm_text m
