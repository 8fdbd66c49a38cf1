-- The parts of a line.
use Rattle.std.specs.Prelude.{◌≡◌, ℕ, ◌+◌, ◌<◌, ◌==◌, ◌||◌, Bool, true, false, List, [], ◌∷◌, ◌++◌, length, filter, All, AllPairs, Option, Some, None}
use Rattle.std.specs.Borrow.{Bor}
use Rattle.std.specs.List.{flat_map, slice_split, zip}
use Rattle.telex.specs.Lines.{PlacedLine, LiesIn}

-- a part: the separator before it, its bytes, and its offset in the message
pub record PlacedPart : Type 0 where
  pub before : ℕ
  pub text : List ℕ
  pub at : ℕ

-- the two bytes that separate the elements of a line: `.` and `/`
abbrev pub dot : ℕ
dot = 46

abbrev pub slash : ℕ
slash = 47

abbrev pub is_separator : ℕ → Bool
is_separator b = b == dot || b == slash

-- pieces one byte apart, the first of them at an offset, each with the byte before it
abbrev pub parts_placed_from : ℕ → List (ℕ × List ℕ) → List PlacedPart
parts_placed_from at [] = []
parts_placed_from at (piece ∷ more) = record { before = piece.0; text = piece.1; at = at } ∷ parts_placed_from (at + length piece.1 + 1) more

-- the parts of a text at an offset and after a byte: what is between its separators, each with the separator before it
abbrev pub parts_from : ℕ → ℕ → List ℕ → List PlacedPart
parts_from before at text = parts_placed_from at (zip (before ∷ filter is_separator text) (slice_split is_separator text))

-- the parts of a line; the first has no separator before it, which is written 0
abbrev pub parts_of : PlacedLine → List PlacedPart
parts_of line = parts_from 0 line.at line.text

-- the parts of what is left of a line, if anything is
abbrev pub parts_left : ℕ → ℕ → Option (Bor (List ℕ)) → List PlacedPart
parts_left before at None = []
parts_left before at (Some rest) = parts_from before at rest.now

-- the parts with their separators between them
abbrev pub joined_parts : List PlacedPart → List ℕ
joined_parts [] = []
joined_parts (first ∷ others) = first.text ++ flat_map (λ part. part.before ∷ part.text) others

-- the first part begins the line, with no separator before it; each other has a separator before it
abbrev pub LeadBySeparators : ℕ → List PlacedPart → Type 0
LeadBySeparators at [] = ⊥
LeadBySeparators at (first ∷ others) = (first.before ≡ 0) × (first.at ≡ at) × All (λ part. is_separator part.before ≡ true) others

-- what it is to be the parts of a line
pub record ArePartsOf (line : PlacedLine) (parts : List PlacedPart) : Type 0 where
  -- joined with their separators, they are the line
  pub joined : joined_parts parts ≡ line.text
  -- each is at its offset in any message that has the line at the line's offset
  pub placed : (message : List ℕ) → LiesIn message line.at line.text → All (λ part. LiesIn message part.at part.text) parts
  -- each begins after the separator that ends the one before
  pub rising : AllPairs (λ part later. part.at + length part.text < later.at) parts
  -- the first has no separator before it, each other has one
  pub led : LeadBySeparators line.at parts
  -- none contains a separator
  pub apart : All (λ part. All (λ b. is_separator b ≡ false) part.text) parts
