-- the text of a certificate, line by line
use Rattle.std.specs.Prelude.{ℕ, ◌≤◌, List, [], ◌∷◌, ◌++◌, length, map, All, IfSome, codes}
use Rattle.mass_units.specs.Spelling.{number_text}
use Rattle.hold_parts.specs.declared.parts.Position.{Position}
use Rattle.hold_limits.specs.Layout.{name_at}
use Rattle.text_lines.specs.Lines.{line_of, text_of}
use Rattle.text_lines.specs.Names.{IsNamed}
use Rattle.certificate.specs.Starts.{StatesAfter}
use Rattle.certificate.specs.Evidence.{claimed}
use Rattle.certificate.specs.declared.parts.Claim.{Claim}
use Rattle.certificate.specs.declared.parts.Claim.TheVariants.{Best, NoneFits}
use Rattle.certificate.specs.declared.parts.Certificate.{Certificate}

-- Lines -----------------------------------------------------------------------------------------

-- the line with which a certificate begins
abbrev pub start_line : List ℕ
start_line = codes "CERTIFICATE 1"

-- a word, and then the names of the positions with these numbers
abbrev pub path_line : List ℕ → List Position → List ℕ → List ℕ
path_line word positions path = line_of (word ∷ map (name_at positions) path)

-- `best NAME NAME ..`, or `none` for the claim that nothing fits
abbrev pub claim_line : List Position → Claim → List ℕ
claim_line positions (Best path) = path_line (codes "best") positions path.items
claim_line positions NoneFits = codes "none"

-- `cut NAME NAME ..`
abbrev pub cut_line : List Position → List ℕ → List ℕ
cut_line positions cut = path_line (codes "cut") positions cut

-- `expanded NUMBER`
abbrev pub expanded_line : ℕ → List ℕ
expanded_line expanded = line_of (codes "expanded" ∷ number_text expanded ∷ [])

-- the lines of a certificate after its first line, in their order
abbrev pub evidence_lines : List Position → Certificate → List (List ℕ)
evidence_lines positions c =
    claim_line positions c.claim ∷ (map (cut_line positions) c.cuts ++ (expanded_line c.expanded ∷ codes "END" ∷ []))

-- all lines of a certificate, as a text
abbrev pub certificate_text : List Position → Certificate → List ℕ
certificate_text positions c = text_of (start_line ∷ evidence_lines positions c)

-- Spellings of the parts ------------------------------------------------------------------------

-- the numbers of at most 60 positions, each of which is named
pub record IsSpelledPath (positions : List Position) (path : List ℕ) : Type 0 where
  pub few : length path ≤ 60
  pub named : All (IsNamed positions) path

-- the path that is claimed to be the best, if one is, can be named
abbrev pub IsSpelledClaim : List Position → Claim → Type 0
IsSpelledClaim positions claim = IfSome (claimed claim) (IsSpelledPath positions)

-- at most 50,000 prefixes are looked at
abbrev pub IsSpelledNumber : ℕ → Type 0
IsSpelledNumber expanded = expanded ≤ 50000

-- there are at most 3,200,000 cuts
abbrev pub AreFewCuts : List (List ℕ) → Type 0
AreFewCuts cuts = length cuts ≤ 3200000

-- each part of the certificate can be spelled
pub record IsSpelled (positions : List Position) (c : Certificate) : Type 0 where
  pub claim : IsSpelledClaim positions c.claim
  pub cuts : All (IsSpelledPath positions) c.cuts
  pub few : AreFewCuts c.cuts
  pub expanded : IsSpelledNumber c.expanded

-- The text --------------------------------------------------------------------------------------

-- the text spells the certificate: its lines are the last ones of the text, and each part of it can be spelled
abbrev pub Spells : List Position → List ℕ → Certificate → Type 0
Spells positions = StatesAfter start_line (IsSpelled positions) (evidence_lines positions)
