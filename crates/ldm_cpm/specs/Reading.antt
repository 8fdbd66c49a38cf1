-- what a reader returns, and why it refuses a text
use Rattle.std.specs.Prelude.{◌≡◌, ℕ, ◌+◌, Option, List, [], ◌∷◌, ◌++◌, length, map, option_map}
use Rattle.std.specs.Option.{option_map_or}
use Rattle.telex.specs.Items.{placed_part}
use Rattle.telex.specs.Lines.{PlacedLine, lines_of}
use Rattle.telex.specs.Parts.{PlacedPart, parts_of}
use Rattle.telex.specs.Text.{IsTelex, IsRefusedWith}
use Rattle.telex.specs.declared.reading.Part.{Part}
use Rattle.text_lines.specs.Grammar.{Begins}
use Rattle.ldm_cpm.specs.Messages.{Heading, OnBoard, LoadMessage, Placing, HoldMessage, ldm_lines, cpm_lines, IsSpelledLdm, IsSpelledCpm}
use Rattle.ldm_cpm.specs.declared.board.Board.{Board}
use Rattle.ldm_cpm.specs.declared.messages.Head.{Head}
use Rattle.ldm_cpm.specs.declared.messages.Ldm.{Ldm}
use Rattle.ldm_cpm.specs.declared.messages.Cpm.{Cpm}
use Rattle.ldm_cpm.specs.declared.messages.CpmPlace.{CpmPlace}
use Rattle.ldm_cpm.specs.declared.fault.MsgFault.{MsgFault}
use Rattle.ldm_cpm.specs.declared.fault.MsgFault.TheVariants.{Telex, Line, NoMemory}

-- What was read ---------------------------------------------------------------------------------

-- what the parts of a head say
abbrev pub heading_of : Head → Heading
heading_of head =
    record { flight = head.flight.text.now; day = head.day.text.now; registration = head.registration.text.now; version = head.version.text.now }

-- the parts of a head, in their order
abbrev pub heading_parts : Head → List Part
heading_parts head = head.flight ∷ head.day ∷ head.registration ∷ head.version ∷ []

-- how many of the crew a head says there are in the cockpit and in the cabin
abbrev pub crew_of : Head → ℕ × ℕ
crew_of head = option_map_or (λ (crew : ℕ × ℕ). crew) head.crew (0, 0)

-- what is said to be on board
abbrev pub board_said : Board → OnBoard
board_said b =
    record { destination = b.destination.text.now; adults = b.adults; children = b.children; infants = b.infants; loads = b.loads }

-- what a load message says
abbrev pub ldm_said : Ldm → LoadMessage
ldm_said m = record {
  heading = heading_of m.head;
  cockpit = (crew_of m.head).0;
  cabin = (crew_of m.head).1;
  board = record { destination = m.destination.text.now; adults = m.adults; children = m.children; infants = m.infants; loads = m.loads };
}

-- what a container message says of a position, and of all
abbrev pub text_in : Option Part → Option (List ℕ)
text_in part = option_map (λ (p : Part). p.text.now) part

abbrev pub placing_said : CpmPlace → Placing
placing_said p = record { name = p.name.text.now; id = text_in p.id; destination = text_in p.destination; mass = p.mass }

abbrev pub cpm_said : Cpm → HoldMessage
cpm_said m = record { heading = heading_of m.head; places = map placing_said m.places }

-- Where its parts stand -------------------------------------------------------------------------

-- the part follows the hyphen at the front of the line
pub record IsBehindHyphen (line : PlacedLine) (part : Part) : Type 0 where
  pub before : part.before ≡ 0
  pub at : part.at ≡ line.at + 1

-- the parts of the head are the first ones of the line
pub record HeadStands (line : PlacedLine) (head : Head) : Type 0 where
  pub more : List PlacedPart
  pub parts : parts_of line ≡ map placed_part (heading_parts head) ++ more

-- the head is in the second line, the destination in the third
pub record LdmStands (lines : List PlacedLine) (m : Ldm) : Type 0 where
  pub title : PlacedLine
  pub second : PlacedLine
  pub third : PlacedLine
  pub are : lines ≡ title ∷ second ∷ third ∷ []
  pub head : HeadStands second m.head
  pub destination : IsBehindHyphen third m.destination

-- the parts of a position that follow its name
abbrev pub content_parts : CpmPlace → List Part
content_parts p = option_map_or (λ (id : Part). id ∷ []) p.id [] ++ option_map_or (λ (destination : Part). destination ∷ []) p.destination []

-- the name follows the hyphen of the first part, and the other parts follow it
abbrev pub PartsStand : List Part → CpmPlace → Type 0
PartsStand [] place = ⊥
PartsStand (one ∷ others) place =
    (place.name.before ≡ one.before) × (place.name.at ≡ one.at + 1) × ((last : Part) × (others ≡ content_parts place ++ last ∷ []))

-- the parts of the line are such parts
abbrev pub PlaceStands : PlacedLine → CpmPlace → Type 0
PlaceStands line place = (parts : List Part) × (map placed_part parts ≡ parts_of line) × PartsStand parts place

-- each position is in its line
abbrev pub PlacesStand : List PlacedLine → List CpmPlace → Type 0
PlacesStand [] [] = Unit {0}
PlacesStand (line ∷ lines) (place ∷ places) = PlaceStands line place × PlacesStand lines places
PlacesStand [] (place ∷ places) = ⊥
PlacesStand (line ∷ lines) [] = ⊥

-- the head is in the second line, each position in a line of its own behind it
pub record CpmStands (lines : List PlacedLine) (m : Cpm) : Type 0 where
  pub title : PlacedLine
  pub second : PlacedLine
  pub others : List PlacedLine
  pub are : lines ≡ title ∷ second ∷ others
  pub head : HeadStands second m.head
  pub places : PlacesStand others m.places

-- Refusals --------------------------------------------------------------------------------------

-- these are the lines of some load message, and of some container message
pub record AreLdmLines (lines : List (List ℕ)) : Type 0 where
  pub said : LoadMessage
  pub spelled : IsSpelledLdm said
  pub are : lines ≡ ldm_lines said

pub record AreCpmLines (lines : List (List ℕ)) : Type 0 where
  pub said : HoldMessage
  pub spelled : IsSpelledCpm said
  pub are : lines ≡ cpm_lines said

-- the line with this number, counted from 1, is the first that fails
pub data FailsAt (IsKind : List (List ℕ) → Type 0) (lines : List (List ℕ)) : ℕ → Type 0 where
  -- the lines before this one may begin a message of the kind, and with this one they may not
  wrong_line : (done : List (List ℕ)) (line : List ℕ) (after : List (List ℕ)) → lines ≡ done ++ line ∷ after
      → Begins IsKind done → (Begins IsKind (done ++ line ∷ []) → ⊥) → FailsAt IsKind lines (length done + 1)
  -- all lines may begin a message of the kind, and they are none
  missing_line : Begins IsKind lines → (IsKind lines → ⊥) → FailsAt IsKind lines (length lines + 1)

-- what a fault of the lines says; running out of memory has no cause in them
abbrev pub IsFaultOf : (List (List ℕ) → Type 0) → List (List ℕ) → MsgFault → Type 0
IsFaultOf IsKind lines (Telex fault) = ⊥
IsFaultOf IsKind lines (Line n) = FailsAt IsKind lines n
IsFaultOf IsKind lines NoMemory = Unit {0}

-- the lines of a text, as their bytes
abbrev pub texts : List PlacedLine → List (List ℕ)
texts lines = map (λ (line : PlacedLine). line.text) lines

-- the text is refused for this fault: it is no telex, or its lines are no message of the kind
abbrev pub IsRefused : (List (List ℕ) → Type 0) → List ℕ → MsgFault → Type 0
IsRefused IsKind text (Telex fault) = IsRefusedWith text fault
IsRefused IsKind text (Line n) = IsTelex text × FailsAt IsKind (texts (lines_of text)) n
IsRefused IsKind text NoMemory = Unit {0}
