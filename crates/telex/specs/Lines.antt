-- The lines of a message.
use Rattle.std.specs.Prelude.{◌≡◌, ℕ, ◌+◌, ◌<◌, ◌≤◌, false, List, [], ◌∷◌, ◌++◌, length, slice_range, slice_get, Some, All, AllPairs}
use Rattle.std.specs.List.{flat_map}
use Rattle.telex.specs.Text.{line_feed, pieces, is_line_feed}

-- a line: its bytes without the line feed, and its offset in the message
pub record PlacedLine : Type 0 where
  pub text : List ℕ
  pub at : ℕ

-- a list without its last element
abbrev pub but_last : {X : Type 0} → List X → List X
but_last [] = []
but_last (x ∷ []) = []
but_last (x ∷ y ∷ more) = x ∷ but_last (y ∷ more)

-- pieces one byte apart, the first of them at an offset
abbrev pub placed_from : ℕ → List (List ℕ) → List PlacedLine
placed_from at [] = []
placed_from at (piece ∷ more) = record { text = piece; at = at } ∷ placed_from (at + length piece + 1) more

-- the lines of a text at an offset: what precedes each of its line feeds
abbrev pub lines_from : ℕ → List ℕ → List PlacedLine
lines_from at text = placed_from at (but_last (pieces text))

-- the lines of a message
abbrev pub lines_of : List ℕ → List PlacedLine
lines_of message = lines_from 0 message

-- the bytes of the piece are those of the message from an offset on
pub record LiesIn (message : List ℕ) (at : ℕ) (piece : List ℕ) : Type 0 where
  pub within : at + length piece ≤ length message
  pub reads : slice_range message at (at + length piece) ≡ piece

-- what it is to be the lines of a message
pub record AreLinesOf (message : List ℕ) (lines : List PlacedLine) : Type 0 where
  -- each followed by a line feed, they are the message
  pub joined : flat_map (λ line. line.text ++ line_feed ∷ []) lines ≡ message
  -- each is in the message at its offset
  pub placed : All (λ line. LiesIn message line.at line.text) lines
  -- a line feed follows each
  pub ended : All (λ line. slice_get message (line.at + length line.text) ≡ Some line_feed) lines
  -- each begins after the line feed of the one before
  pub rising : AllPairs (λ line later. line.at + length line.text < later.at) lines
  -- none contains a line feed
  pub apart : All (λ line. All (λ b. is_line_feed b ≡ false) line.text) lines

-- the byte is printable ASCII
abbrev pub IsPrintable : ℕ → Type 0
IsPrintable b = (32 ≤ b) × (b ≤ 126)
