use Rattle.std.proofs.Common.{◌≡◌, ◌++◌, List, [], map, ap, sym, ◌∙◌}
use Rattle.std.proofs.lemmas.List.{append-nil}
use Rattle.telex.specs.Items.{placed_line, placed_part}
use Rattle.telex.specs.Parts.{PlacedPart, parts_of, joined_parts}
use Rattle.telex.specs.Elements.{line_text, elements_of}
use Rattle.telex.specs.declared.reading.Line.{Line}
use Rattle.telex.specs.declared.reading.Part.{Part}
use Rattle.telex.proofs.ElementLaws.{said-placed, line_text-joined, elements_of-line}
use Rattle.telex.proofs.PartLaws.{ArePartsOf-parts_of}
use Rattle.telex.proofs.reading.Line.parts.Goals as goal

-- nothing is left, so these are all parts
all-parts : (line : Line) (parts : List Part) (left : List PlacedPart) → map placed_part parts ++ left ≡ parts_of (placed_line line) → left ≡ []
    → map placed_part parts ≡ parts_of (placed_line line)
all-parts line parts left are none = sym (append-nil (map placed_part parts)) ∙ ap (λ rest. map placed_part parts ++ rest) (sym none) ∙ are

pub returns-clause-joined : goal.returns-clause-joined
returns-clause-joined c =
    let line = c.args.self.now in
    let parts = c.loop-part.parts.items in
    ap line_text (said-placed parts) ∙ line_text-joined (map placed_part parts)
    ∙ ap joined_parts (all-parts line parts c.loop-part.part-iterator c.loop-part.invariant c.in-None.ensures.steps.0)
    ∙ (ArePartsOf-parts_of (placed_line line)).joined

pub returns-clause-elements : goal.returns-clause-elements
returns-clause-elements c = λ elements are is.
    let line = c.args.self.now in
    let parts = c.loop-part.parts.items in
    said-placed parts ∙ ap elements_of (all-parts line parts c.loop-part.part-iterator c.loop-part.invariant c.in-None.ensures.steps.0)
    ∙ elements_of-line (placed_line line) elements are is
