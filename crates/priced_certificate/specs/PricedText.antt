-- the text of a certificate with prices, line by line
use Rattle.std.specs.Prelude.{ℕ, ◌≤◌, ◌<◌, ◌^◌, ℤ, unsigned_abs, List, [], ◌∷◌, ◌++◌, length, map, All, codes}
use Rattle.mass_units.specs.Spelling.{signed_text}
use Rattle.hold_parts.specs.declared.parts.Position.{Position}
use Rattle.text_lines.specs.Lines.{text_of}
use Rattle.text_lines.specs.WordRuns.{run_text}
use Rattle.certificate.specs.Starts.{StatesAfter}
use Rattle.certificate.specs.CertificateText.{claim_line, cut_line, expanded_line, IsSpelledPath, IsSpelledClaim, IsSpelledNumber}
use Rattle.assignment_prices.specs.declared.prices.Prices.{Prices}
use Rattle.priced_certificate.specs.declared.parts.PricedCut.{PricedCut}
use Rattle.priced_certificate.specs.declared.parts.PricedCertificate.{PricedCertificate}

-- the prefix of each cut
abbrev pub prefixes_of : List PricedCut → List (List ℕ)
prefixes_of cuts = map (λ (cut : PricedCut). cut.prefix.items) cuts

-- Lines -----------------------------------------------------------------------------------------

-- the line with which a certificate with prices begins
abbrev pub start_line : List ℕ
start_line = codes "CERTIFICATE 2"

-- a price, after a space
abbrev pub price_word : ℤ → List ℕ
price_word price = 32 ∷ signed_text price

-- a word, the prices of containers, a semicolon, and the prices of positions
abbrev pub end_line : List ℕ → List ℤ → List ℤ → List ℕ
end_line word items places = word ++ (run_text price_word items ++ (codes " ;" ++ run_text price_word places))

-- `lower N N .. ; N N ..`
abbrev pub lower_line : Prices → List ℕ
lower_line p = end_line (codes "lower") p.lower_items.items p.lower_places.items

-- `upper N N .. ; N N ..`
abbrev pub upper_line : Prices → List ℕ
upper_line p = end_line (codes "upper") p.upper_items.items p.upper_places.items

-- `cut NAME NAME ..`, and the two lines of its prices
abbrev pub lines_of_cut : List Position → PricedCut → List (List ℕ)
lines_of_cut positions cut = cut_line positions cut.prefix.items ∷ lower_line cut.prices ∷ upper_line cut.prices ∷ []

-- the lines of each cut, in order
abbrev pub lines_of_cuts : List Position → List PricedCut → List (List ℕ)
lines_of_cuts positions [] = []
lines_of_cuts positions (cut ∷ cuts) = lines_of_cut positions cut ++ lines_of_cuts positions cuts

-- `expanded NUMBER` and `END`
abbrev pub last_lines : ℕ → List (List ℕ)
last_lines expanded = expanded_line expanded ∷ codes "END" ∷ []

-- the lines of a certificate after its first line, in their order
abbrev pub priced_lines : List Position → PricedCertificate → List (List ℕ)
priced_lines positions c = claim_line positions c.claim ∷ (lines_of_cuts positions c.cuts ++ last_lines c.expanded)

-- all lines of a certificate, as a text
abbrev pub priced_certificate_text : List Position → PricedCertificate → List ℕ
priced_certificate_text positions c = text_of (start_line ∷ priced_lines positions c)

-- Spellings of the parts ------------------------------------------------------------------------

-- a price has at most 14 digits beside its sign
abbrev pub IsSpelledPrice : ℤ → Type 0
IsSpelledPrice price = unsigned_abs price < 10 ^ 14

-- no more prices than there may be, each of which can be spelled
pub record AreSpelledPrices (most : ℕ) (prices : List ℤ) : Type 0 where
  pub few : length prices ≤ most
  pub spelled : All IsSpelledPrice prices

-- prices of at most 60 containers, and of at most 64 positions
pub record IsSpelledEnd (items places : List ℤ) : Type 0 where
  pub containers : AreSpelledPrices 60 items
  pub positions : AreSpelledPrices 64 places

-- the prefix of a cut and its prices are as short as they have to be
pub record IsShortCut (cut : PricedCut) : Type 0 where
  pub prefix : length cut.prefix.items ≤ 60
  pub lower_items : length cut.prices.lower_items.items ≤ 60
  pub lower_places : length cut.prices.lower_places.items ≤ 64
  pub upper_items : length cut.prices.upper_items.items ≤ 60
  pub upper_places : length cut.prices.upper_places.items ≤ 64

-- the prefix of a cut and its prices can be spelled
pub record IsSpelledCut (positions : List Position) (cut : PricedCut) : Type 0 where
  pub prefix : IsSpelledPath positions cut.prefix.items
  pub lower : IsSpelledEnd cut.prices.lower_items.items cut.prices.lower_places.items
  pub upper : IsSpelledEnd cut.prices.upper_items.items cut.prices.upper_places.items

-- each part of the certificate can be spelled, and there are at most 32,000 cuts
pub record IsSpelled (positions : List Position) (c : PricedCertificate) : Type 0 where
  pub claim : IsSpelledClaim positions c.claim
  pub cuts : All (IsSpelledCut positions) c.cuts
  pub few : length c.cuts ≤ 32000
  pub expanded : IsSpelledNumber c.expanded

-- The text --------------------------------------------------------------------------------------

-- the text spells the certificate: its lines are the last ones of the text, and each part of it can be spelled
abbrev pub Spells : List Position → List ℕ → PricedCertificate → Type 0
Spells positions = StatesAfter start_line (IsSpelled positions) (priced_lines positions)
