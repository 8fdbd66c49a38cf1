-- One line that was read by its parts.
use Rattle.std.proofs.Common.{◌≡◌, ℕ, ◌+◌, ◌≤◌, List, [], ◌∷◌, ◌++◌, length, map, get_or, Option, Some, None, Result, Ok, Err, refl, sym, ap, subst, ◌∙◌, arith}
use Rattle.std.specs.Prelude.{IfSome, IfOk, IsSomeAnd}
use Rattle.std.proofs.lemmas.List.{map-append}
use Rattle.telex.specs.Elements.{Element, said, line_text, AreElements}
use Rattle.telex.specs.Items.{placed_part}
use Rattle.telex.specs.Lines.{PlacedLine}
use Rattle.telex.specs.Parts.{PlacedPart, parts_of, LeadBySeparators}
use Rattle.telex.proofs.PartLaws.{ArePartsOf-parts_of}
use Rattle.telex.specs.declared.reading.Part.{Part}
use Rattle.ldm_cpm.specs.Messages.{IsSpelledHeading, OnBoard, IsSpelledBoard, heading_elements, crew_elements, board_elements}
use Rattle.ldm_cpm.specs.Reading.{heading_of, heading_parts, crew_of, board_said, HeadStands, IsBehindHyphen}
use Rattle.ldm_cpm.specs.declared.board.Board.{Board}
use Rattle.ldm_cpm.specs.declared.messages.Head.{Head}
use Rattle.ldm_cpm.proofs.PlainLines.{elements-board}

-- the parts of a line say what its text does
pub line-says : (lines left more : List PlacedLine) (placed line : PlacedLine) (parts slice : List Part) (es : List Element) → lines ≡ placed ∷ left → slice ≡ parts
    → ((elements : List Element) → AreElements elements → placed.text ≡ line_text elements → said parts ≡ elements)
    → lines ≡ line ∷ more → AreElements es → line.text ≡ line_text es → said slice ≡ es
line-says lines left more placed line parts slice es first same elements other are is =
    let same_line : placed ≡ line = ap (λ (ls : List PlacedLine). get_or ls 0 placed) (sym first ∙ other) in
    ap said same ∙ elements es are (ap (λ (l : PlacedLine). l.text) same_line ∙ is)

-- and its text is that of what they say
line-text : (text : List ℕ) (parts slice : List Part) (es : List Element) → line_text (said parts) ≡ text → slice ≡ parts → said slice ≡ es → text ≡ line_text es
line-text text parts slice es joined same says = sym joined ∙ ap (λ ps. line_text (said ps)) (sym same) ∙ ap line_text says

head-stands : (line : PlacedLine) (parts slice more : List Part) (head : Head) → map placed_part parts ≡ parts_of line → slice ≡ parts → slice ≡ heading_parts head ++ more
    → HeadStands line head
head-stands line parts slice more head are same front = record {
  more = map placed_part more;
  parts = sym are ∙ ap (λ (ps : List Part). map placed_part ps) (sym same ∙ front) ∙ map-append placed_part (heading_parts head) more;
}

pub crew-found : (r : Option Head) (lines left : List PlacedLine) (line : PlacedLine) (parts slice : List Part) → lines ≡ line ∷ left → map placed_part parts ≡ parts_of line
    → line_text (said parts) ≡ line.text → slice ≡ parts → IfSome r (λ head. (more : List Part) × (slice ≡ heading_parts head ++ more))
    → IfSome r (λ head. said slice ≡ crew_elements (heading_of head) (crew_of head).0 (crew_of head).1)
    → IfSome r (λ head. (l : PlacedLine) × (lines ≡ l ∷ left) × (l.text ≡ line_text (crew_elements (heading_of head) (crew_of head).0 (crew_of head).1)) × HeadStands l head)
crew-found None lines left line parts slice first are joined same front says = tt
crew-found (Some head) lines left line parts slice first are joined same front says = (
  line,
  first,
  line-text line.text parts slice (crew_elements (heading_of head) (crew_of head).0 (crew_of head).1) joined same says,
  head-stands line parts slice front.0 head are same front.1,
)

pub crew-spelled : (r : Option Head) → IfSome r (λ head. IsSpelledHeading (heading_of head)) → IfSome r (λ head. ((crew_of head).0 ≤ 99) × ((crew_of head).1 ≤ 99))
    → IfSome r (λ head. IsSpelledHeading (heading_of head) × ((crew_of head).0 ≤ 99) × ((crew_of head).1 ≤ 99))
crew-spelled None spelled crew = tt
crew-spelled (Some head) spelled crew = (spelled, crew.0, crew.1)

pub head-found : (r : Option Head) (lines left : List PlacedLine) (line : PlacedLine) (parts slice : List Part) → lines ≡ line ∷ left → map placed_part parts ≡ parts_of line
    → line_text (said parts) ≡ line.text → slice ≡ parts → IfSome r (λ head. slice ≡ heading_parts head)
    → IfSome r (λ head. said slice ≡ heading_elements (heading_of head))
    → IfSome r (λ head. (l : PlacedLine) × (lines ≡ l ∷ left) × (l.text ≡ line_text (heading_elements (heading_of head))) × HeadStands l head)
head-found None lines left line parts slice first are joined same front says = tt
head-found (Some head) lines left line parts slice first are joined same front says = (
  line,
  first,
  line-text line.text parts slice (heading_elements (heading_of head)) joined same says,
  head-stands line parts slice [] head are same front,
)

-- where the first part of a line stands
first-at : (line : PlacedLine) (one : Part) (parts : List Part) → map placed_part (one ∷ parts) ≡ parts_of line → one.at ≡ line.at
first-at line one parts are = (subst (λ (ps : List PlacedPart). LeadBySeparators line.at ps) (sym are) (ArePartsOf-parts_of line).led).1

board-stands : (line : PlacedLine) (parts : List Part) (b : Board) → map placed_part parts ≡ parts_of line
    → (b.destination.before ≡ 0) × ((one : Part) (more : List Part) → parts ≡ one ∷ more → b.destination.at ≡ one.at + 1)
    → said parts ≡ board_elements (board_said b) → IsBehindHyphen line b.destination
board-stands line [] b are there says = absurd (omega (arith, ap length says))
board-stands line (one ∷ parts) b are there says = record {
  before = there.0;
  at = there.1 one parts refl ∙ ap (λ n. n + 1) (first-at line one parts are);
}

pub board-found : {E : Type 0} (result : Result (Option Board) E) (lines left : List PlacedLine) (line : PlacedLine) (parts slice : List Part) → lines ≡ line ∷ left
    → map placed_part parts ≡ parts_of line → line_text (said parts) ≡ line.text → slice ≡ parts
    → IfOk result (λ r. IfSome r (λ b. (b.destination.before ≡ 0) × ((one : Part) (more : List Part) → slice ≡ one ∷ more → b.destination.at ≡ one.at + 1)))
    → IfOk result (λ r. IfSome r (λ b. IsSpelledBoard (board_said b) × (said slice ≡ board_elements (board_said b))))
    → IfOk result (λ r. IfSome r (λ b. (l : PlacedLine) × (lines ≡ l ∷ left) × (l.text ≡ line_text (board_elements (board_said b))) × IsBehindHyphen l b.destination))
board-found (Err e) lines left line parts slice first are joined same there says = tt
board-found (Ok None) lines left line parts slice first are joined same there says = tt
board-found (Ok (Some b)) lines left line parts slice first are joined same there says = (
  line,
  first,
  line-text line.text parts slice (board_elements (board_said b)) joined same says.1,
  board-stands line slice b (ap (λ (ps : List Part). map placed_part ps) same ∙ are) there says.1,
)

pub board-back : {E : Type 0} (result : Result (Option Board) E) (lines left : List PlacedLine) (placed : PlacedLine) (parts slice : List Part) → lines ≡ placed ∷ left → slice ≡ parts
    → ((elements : List Element) → AreElements elements → placed.text ≡ line_text elements → said parts ≡ elements)
    → IfOk result (λ r. (m : OnBoard) → IsSpelledBoard m → said slice ≡ board_elements m → IsSomeAnd r (λ b. board_said b ≡ m))
    → IfOk result (λ r. (line : PlacedLine) (more : List PlacedLine) → lines ≡ line ∷ more → (m : OnBoard) → IsSpelledBoard m → line.text ≡ line_text (board_elements m)
    → IsSomeAnd r (λ b. board_said b ≡ m))
board-back (Err e) lines left placed parts slice first same elements back = tt
board-back (Ok r) lines left placed parts slice first same elements back = λ line more other m s is.
    back m s (line-says lines left more placed line parts slice (board_elements m) first same elements other (elements-board m s) is)
