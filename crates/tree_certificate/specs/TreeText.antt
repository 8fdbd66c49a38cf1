-- the text of a certificate of trees, line by line
use Rattle.std.specs.Prelude.{ℕ, ◌<◌, ◌^◌, List, [], ◌∷◌, ◌++◌, map, All, codes}
use Rattle.mass_units.specs.Spelling.{number_text, IsNumber}
use Rattle.hold_parts.specs.declared.parts.Position.{Position}
use Rattle.hold_limits.specs.Layout.{name_at}
use Rattle.text_lines.specs.Lines.{line_of, text_of}
use Rattle.text_lines.specs.Names.{IsNamed}
use Rattle.text_lines.specs.WordRuns.{run_text}
use Rattle.position_set.specs.declared.set.PositionSet.{PositionSet}
use Rattle.position_set.specs.Sets.{members}
use Rattle.certificate.specs.Starts.{StatesAfter}
use Rattle.certificate.specs.CertificateText.{claim_line, IsSpelledClaim}
use Rattle.certificate.specs.declared.parts.Claim.{Claim}
use Rattle.certificate.specs.declared.parts.Claim.TheVariants.{Best, NoneFits}
use Rattle.tree_certificate.specs.declared.parts.End.{End}
use Rattle.tree_certificate.specs.declared.parts.End.TheVariants.{Low, High}
use Rattle.tree_certificate.specs.declared.parts.Price.{Price}
use Rattle.tree_certificate.specs.declared.parts.Operation.{Operation}
use Rattle.tree_certificate.specs.declared.parts.Operation.TheVariants.{Leaf, Residue, Narrow, Split}
use Rattle.tree_certificate.specs.Listed.{ListedPrices, ListedSibling, ListedTrees}

-- Lines -----------------------------------------------------------------------------------------

-- the line with which a certificate of trees begins
abbrev pub start_line : List ℕ
start_line = codes "CERTIFICATE 3"

-- `clique NAME NAME ..`, from nose to tail
abbrev pub clique_line : List Position → PositionSet → List ℕ
clique_line positions clique = line_of (codes "clique" ∷ map (name_at positions) (members clique))

-- a price after what it is of, each after a space
abbrev pub price_text : (ℕ → List ℕ) → Price → List ℕ
price_text word p = 32 ∷ (word p.of ++ 32 ∷ number_text p.price)

abbrev pub end_word : End → List ℕ
end_word Low = codes "low"
end_word High = codes "high"

-- ` NAME N .. ; L N .. ; E N ..`: prices of positions, of limits and of cliques
abbrev pub prices_text : List Position → ListedPrices → List ℕ
prices_text positions list =
    run_text (price_text (name_at positions)) list.positions
    ++ (codes " ;" ++ (run_text (price_text number_text) list.limits
    ++ (codes " ;" ++ run_text (price_text number_text) list.cliques)))

-- `low NAME N .. ; L N .. ; E N ..`, or the same with `high`
abbrev pub price_line : List Position → ListedPrices → List ℕ
price_line positions list = end_word list.end ++ prices_text positions list

-- `leaf V`, `residue`, `narrow V` or `split I NAME ..`
abbrev pub operation_line : List Position → Operation → List ℕ
operation_line positions (Leaf v) = line_of (codes "leaf" ∷ number_text v ∷ [])
operation_line positions Residue = codes "residue"
operation_line positions (Narrow v) = line_of (codes "narrow" ∷ number_text v ∷ [])
operation_line positions (Split i names) = line_of (codes "split" ∷ number_text i ∷ map (name_at positions) (members names))

-- `nearer`, or `any` for the claim that nothing fits
abbrev pub root_line : Claim → List ℕ
root_line (Best path) = codes "nearer"
root_line NoneFits = codes "any"

-- `least K NAME`, of a rank and a position
abbrev pub least_line : List Position → ℕ × ℕ → List ℕ
least_line positions at = line_of (codes "least" ∷ number_text at.0 ∷ name_at positions at.1 ∷ [])

-- each sibling's line with the lines of its operations
abbrev pub sibling_lines : List Position → List ListedSibling → List (List ℕ)
sibling_lines positions [] = []
sibling_lines positions (s ∷ siblings) = least_line positions (s.rank, s.position) ∷ (map (operation_line positions) s.operations ++ sibling_lines positions siblings)

-- the lines of a certificate after its first line, in their order
abbrev pub tree_lines : List Position → ListedTrees → List (List ℕ)
tree_lines positions c =
    claim_line positions c.claim ∷ (map (clique_line positions) c.cliques ++ (map (price_line positions) c.prices
    ++ (root_line c.claim ∷ (map (operation_line positions) c.root ++ (sibling_lines positions c.siblings ++ codes "END" ∷ [])))))

-- all lines of a certificate, as a text
abbrev pub tree_text : List Position → ListedTrees → List ℕ
tree_text positions c = text_of (start_line ∷ tree_lines positions c)

-- Spellings of the parts ------------------------------------------------------------------------

-- the set fits a machine word, and each of its numbers is that of a position
pub record IsSpelledSet (positions : List Position) (set : PositionSet) : Type 0 where
  pub fits : set.0 < 2 ^ 64
  pub named : All (IsNamed positions) (members set)

-- what the price is of can be spelled, and it is a number of 64 bits
pub record IsSpelledPrice (IsRight : ℕ → Type 0) (p : Price) : Type 0 where
  pub of : IsRight p.of
  pub price : p.price < 2 ^ 64

abbrev pub AreSpelledPrices : (ℕ → Type 0) → List Price → Type 0
AreSpelledPrices IsRight prices = All (IsSpelledPrice IsRight) prices

-- prices of named positions, and of limits and cliques whose numbers have at most nine digits
pub record IsSpelledPriceList (named : List Position) (list : ListedPrices) : Type 0 where
  pub positions : AreSpelledPrices (IsNamed named) list.positions
  pub limits : AreSpelledPrices IsNumber list.limits
  pub cliques : AreSpelledPrices IsNumber list.cliques

abbrev pub IsSpelledOperation : List Position → Operation → Type 0
IsSpelledOperation positions (Leaf v) = IsNumber v
IsSpelledOperation positions Residue = Unit {0}
IsSpelledOperation positions (Narrow v) = IsNumber v
IsSpelledOperation positions (Split i names) = (i < 256) × IsSpelledSet positions names

-- the rank fits a byte, and the position is named
pub record IsSpelledLeast (positions : List Position) (at : ℕ × ℕ) : Type 0 where
  pub rank : at.0 < 256
  pub position : IsNamed positions at.1

pub record IsSpelledSibling (positions : List Position) (s : ListedSibling) : Type 0 where
  pub least : IsSpelledLeast positions (s.rank, s.position)
  pub operations : All (IsSpelledOperation positions) s.operations

-- each part of the certificate can be spelled
pub record IsSpelled (positions : List Position) (c : ListedTrees) : Type 0 where
  pub claim : IsSpelledClaim positions c.claim
  pub cliques : All (IsSpelledSet positions) c.cliques
  pub prices : All (IsSpelledPriceList positions) c.prices
  pub root : All (IsSpelledOperation positions) c.root
  pub siblings : All (IsSpelledSibling positions) c.siblings

-- The text --------------------------------------------------------------------------------------

-- the text spells the certificate: its lines are the last ones of the text, and each part of it can be spelled
abbrev pub Spells : List Position → List ℕ → ListedTrees → Type 0
Spells positions = StatesAfter start_line (IsSpelled positions) (tree_lines positions)
