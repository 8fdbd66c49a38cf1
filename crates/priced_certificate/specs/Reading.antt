-- what the steps of the reader return
use Rattle.std.specs.Prelude.{◌≡◌, ◌≢◌, ℕ, ◌+◌, ◌<◌, ◌≤◌, ℤ, List, ◌++◌, length, All}
use Rattle.hold_parts.specs.declared.parts.Position.{Position}
use Rattle.text_lines.specs.Cuts.{IsCutAt}
use Rattle.text_lines.specs.Lines.{text_of}
use Rattle.text_lines.specs.Sections.{HasNoneAhead}
use Rattle.text_lines.specs.WordRuns.{run_text}
use Rattle.certificate.specs.CertificateText.{cut_line, IsSpelledPath, IsSpelledNumber}
use Rattle.priced_certificate.specs.declared.parts.PricedCut.{PricedCut}
use Rattle.priced_certificate.specs.PricedText.{price_word, end_line, lines_of_cut, lines_of_cuts, last_lines, IsSpelledPrice, AreSpelledPrices, IsSpelledEnd, IsSpelledCut}

-- Prices ----------------------------------------------------------------------------------------

-- no price stands at the front of the words
abbrev pub HasNoPrice : List ℕ → Type 0
HasNoPrice words = (price : ℤ) (rest : List ℕ) → IsSpelledPrice price → IsCutAt 32 rest → words ≢ price_word price ++ rest

-- the words begin with these prices, which are no more than there may be, and go on with none
pub record ArePrices (most : ℕ) (words : List ℕ) (prices : List ℤ) (rest : List ℕ) : Type 0 where
  pub right : AreSpelledPrices most prices
  pub read : words ≡ run_text price_word prices ++ rest
  pub cut : IsCutAt 32 words → IsCutAt 32 rest
  pub stops : HasNoPrice rest

-- the line has this word and prices of one end
pub record IsEndLine (word line : List ℕ) : Type 0 where
  pub items : List ℤ
  pub places : List ℤ
  pub right : IsSpelledEnd items places
  pub is : line ≡ end_line word items places

-- Cuts ------------------------------------------------------------------------------------------

-- no cut begins with the next line
abbrev pub HasNoCutAhead : List Position → List ℕ → Type 0
HasNoCutAhead positions = HasNoneAhead (cut_line positions) (IsSpelledPath positions)

-- these are the lines of a certificate from a cut on, behind which there are at most so many cuts
pub record AreFromCut (positions : List Position) (most : ℕ) (lines : List (List ℕ)) : Type 0 where
  pub cuts : List PricedCut
  pub expanded : ℕ
  pub few : length cuts ≤ most
  pub right : All (IsSpelledCut positions) cuts
  pub number : IsSpelledNumber expanded
  pub are : lines ≡ lines_of_cuts positions cuts ++ last_lines expanded

-- the lines between two points of a text are those of this cut
pub record IsCutBetween (positions : List Position) (before after : List ℕ) (number next : ℕ) (cut : PricedCut) : Type 0 where
  pub right : IsSpelledCut positions cut
  pub read : before ≡ text_of (lines_of_cut positions cut) ++ after
  pub counted : next ≡ number + 3

-- the lines between two points of a text are those of these cuts, of which there are at most 32,000; where there are
-- fewer, no cut follows
pub record AreCutsBetween (positions : List Position) (before after : List ℕ) (number next : ℕ) (cuts : List PricedCut) : Type 0 where
  pub right : All (IsSpelledCut positions) cuts
  pub few : length cuts ≤ 32000
  pub read : before ≡ text_of (lines_of_cuts positions cuts) ++ after
  pub counted : next ≡ number + length (lines_of_cuts positions cuts)
  pub stops : length cuts < 32000 → HasNoCutAhead positions after
