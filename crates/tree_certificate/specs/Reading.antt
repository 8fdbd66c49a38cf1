-- what the steps of the reader return
use Rattle.std.specs.Prelude.{◌≡◌, ◌≢◌, ℕ, ◌+◌, List, ◌∷◌, [], ◌++◌, length, All}
use Rattle.mass_units.specs.Spelling.{number_text, IsNumber}
use Rattle.hold_parts.specs.declared.parts.Position.{Position}
use Rattle.hold_limits.specs.Layout.{name_at}
use Rattle.text_lines.specs.Cuts.{IsCutAt}
use Rattle.text_lines.specs.Lines.{text_of}
use Rattle.text_lines.specs.Names.{IsNamed}
use Rattle.text_lines.specs.Sections.{HasNoneAhead}
use Rattle.text_lines.specs.WordRuns.{run_text}
use Rattle.tree_certificate.specs.declared.parts.Price.{Price}
use Rattle.tree_certificate.specs.declared.price_readers.Holders.{Holders}
use Rattle.tree_certificate.specs.declared.price_readers.Holders.TheVariants.{Positions, Numbers}
use Rattle.tree_certificate.specs.Listed.{ListedSibling}
use Rattle.tree_certificate.specs.TreeText.{price_text, least_line, operation_line, sibling_lines, IsSpelledPrice, AreSpelledPrices, IsSpelledOperation, IsSpelledLeast, IsSpelledSibling}

-- Prices ----------------------------------------------------------------------------------------

-- the word of what a price is of: a position's name, or a number
abbrev pub holder_word : Holders → ℕ → List ℕ
holder_word (Positions names) = name_at names.now.positions.now
holder_word Numbers = number_text

abbrev pub IsHolder : Holders → ℕ → Type 0
IsHolder (Positions names) = IsNamed names.now.positions.now
IsHolder Numbers = IsNumber

-- no price of this kind stands at the front of the words
abbrev pub HasNoPrice : (ℕ → List ℕ) → (ℕ → Type 0) → List ℕ → Type 0
HasNoPrice word IsRight words = (p : Price) (rest : List ℕ) → IsSpelledPrice IsRight p → IsCutAt 32 rest → words ≢ price_text word p ++ rest

-- the words begin with these prices, and go on with none
pub record ArePrices (word : ℕ → List ℕ) (IsRight : ℕ → Type 0) (words : List ℕ) (prices : List Price) (rest : List ℕ) : Type 0 where
  pub right : AreSpelledPrices IsRight prices
  pub read : words ≡ run_text (price_text word) prices ++ rest
  pub cut : IsCutAt 32 words → IsCutAt 32 rest
  pub stops : HasNoPrice word IsRight rest

-- Siblings --------------------------------------------------------------------------------------

-- the next line is not that of a sibling, or not that of an operation
abbrev pub HasNoLeastAhead : List Position → List ℕ → Type 0
HasNoLeastAhead positions = HasNoneAhead (least_line positions) (IsSpelledLeast positions)

abbrev pub HasNoOperationAhead : List Position → List ℕ → Type 0
HasNoOperationAhead positions = HasNoneAhead (operation_line positions) (IsSpelledOperation positions)

-- the lines between two points of a text state these siblings, each with its tree, and no sibling follows
pub record AreSiblings (positions : List Position) (before after : List ℕ) (number next : ℕ) (got : List ListedSibling) : Type 0 where
  pub right : All (IsSpelledSibling positions) got
  pub read : before ≡ text_of (sibling_lines positions got) ++ after
  pub stops : HasNoLeastAhead positions after
  -- nor does an operation, where none came first
  pub idle : HasNoOperationAhead positions before → HasNoOperationAhead positions after
  pub counted : next ≡ number + length (sibling_lines positions got)

-- the lines between two points of a text state this sibling with its tree, and no operation follows
pub record IsSibling (positions : List Position) (before after : List ℕ) (number next : ℕ) (got : ListedSibling) : Type 0 where
  pub right : IsSpelledSibling positions got
  pub read : before ≡ text_of (sibling_lines positions (got ∷ [])) ++ after
  pub idle : HasNoOperationAhead positions after
  pub counted : next ≡ number + length (sibling_lines positions (got ∷ []))
