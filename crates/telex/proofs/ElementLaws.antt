-- A line has the elements that its text is made of, and no others.
use Rattle.std.proofs.Common.{◌≡◌, ℕ, ◌+◌, List, [], ◌∷◌, ◌++◌, length, map, refl, sym, ap, ◌∙◌}
use Rattle.std.specs.List.{flat_map}
use Rattle.std.specs.Prelude.{All}
use Rattle.std.proofs.lemmas.List.{append-nil}
use Rattle.std.proofs.lemmas.List.Elements.{All-head, All-tail}
use Rattle.telex.specs.Lines.{PlacedLine}
use Rattle.telex.specs.Parts.{PlacedPart, parts_from, parts_of, joined_parts}
use Rattle.telex.specs.Elements.{Element, line_text, said, elements_of, IsUndivided, IsMarked, AreElements}
use Rattle.telex.specs.Items.{placed_part}
use Rattle.telex.specs.declared.reading.Part.{Part}
use Rattle.telex.proofs.PartLaws.{parts_from-clean, parts_from-cut}

marked-elements : (parts : List PlacedPart)
    → flat_map (λ (e : Element). e.0 ∷ e.1) (elements_of parts) ≡ flat_map (λ (part : PlacedPart). part.before ∷ part.text) parts
marked-elements [] = refl
marked-elements (part ∷ more) = ap (λ t. part.before ∷ (part.text ++ t)) (marked-elements more)

-- the text of a line is that of its elements
pub line_text-joined : (parts : List PlacedPart) → line_text (elements_of parts) ≡ joined_parts parts
line_text-joined [] = refl
line_text-joined (one ∷ others) = ap (λ t. one.text ++ t) (marked-elements others)

elements_from : (before at : ℕ) (text : List ℕ) (others : List Element) → IsUndivided text → All IsMarked others
    → elements_of (parts_from before at (text ++ flat_map (λ (e : Element). e.0 ∷ e.1) others)) ≡ (before, text) ∷ others
elements_from before at text [] clean marked =
    ap (λ t. elements_of (parts_from before at t)) (append-nil text) ∙ ap elements_of (parts_from-clean before at text clean)
elements_from before at text (e ∷ others) clean marked =
    let one = All-head IsMarked e others marked in
    ap elements_of (parts_from-cut before at text e.0 (e.1 ++ flat_map (λ (e : Element). e.0 ∷ e.1) others) clean one.0)
    ∙ ap (λ es. (before, text) ∷ es) (elements_from e.0 (at + length text + 1) e.1 others one.1 (All-tail IsMarked e others marked))

-- a line that is made of elements has these
pub elements_of-line : (line : PlacedLine) (elements : List Element) → AreElements elements → line.text ≡ line_text elements → elements_of (parts_of line) ≡ elements
elements_of-line line [] are is = absurd are
elements_of-line line (one ∷ others) are is =
    ap (λ t. elements_of (parts_from 0 line.at t)) is
    ∙ elements_from 0 line.at one.1 others are.1 are.2
    ∙ ap (λ before. (before, one.1) ∷ others) (sym are.0)

-- what parts say is what they say as values
pub said-placed : (parts : List Part) → said parts ≡ elements_of (map placed_part parts)
said-placed [] = refl
said-placed (part ∷ more) = ap (λ es. (part.before, part.text.now) ∷ es) (said-placed more)
