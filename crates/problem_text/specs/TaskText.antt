-- the text of a task, line by line
use Rattle.std.specs.Prelude.{◌≡◌, ℕ, ◌≤◌, ℤ, Bool, true, false, List, [], ◌∷◌, ◌++◌, length, map, All, Option, Some, None, IfSome, codes}
use Rattle.mass_units.specs.Spelling.{number_text, signed_text, index_text, IsNumber, IsSignedNumber, IsIndex}
use Rattle.hold_parts.specs.declared.lists.Fit.{Fit}
use Rattle.hold_parts.specs.declared.parts.Position.{Position}
use Rattle.hold_parts.specs.declared.parts.Combined.{Combined}
use Rattle.hold_parts.specs.declared.parts.Cumulative.{Cumulative}
use Rattle.hold_parts.specs.declared.parts.Lateral.{Lateral}
use Rattle.hold_parts.specs.declared.parts.Item.{Item}
use Rattle.hold_parts.specs.declared.parts.Loose.{Loose}
use Rattle.hold_parts.specs.Spellings.{IsName, IsKind, IsUldId}
use Rattle.hold_limits.specs.Layout.{name_at}
use Rattle.hold_limits.specs.Problem.{Problem}
use Rattle.text_lines.specs.Lines.{line_of, text_of}
use Rattle.text_lines.specs.Names.{IsNamed}

-- Lines -----------------------------------------------------------------------------------------

-- a kind that a position accepts, with the greatest mass of one: two words
abbrev pub fit_words : List Fit → List (List ℕ)
fit_words [] = []
fit_words (fit ∷ fits) = fit.kind ∷ number_text fit.most.0 ∷ fit_words fits

-- the first word of a position's line
abbrev pub position_word : Bool → List ℕ
position_word true = codes "bulk"
position_word false = codes "position"

-- `position NAME COMPARTMENT INFLUENCE KIND MOST KIND MOST ..`, or `bulk NAME COMPARTMENT INFLUENCE`
abbrev pub position_line : Position → List ℕ
position_line q =
    line_of (position_word q.bulk ∷ q.name ∷ number_text q.compartment ∷ signed_text q.influence ∷ fit_words q.fits)

-- `exclude NAME NAME`
abbrev pub exclude_line : List Position → ℕ × ℕ → List ℕ
exclude_line positions pair =
    line_of (codes "exclude" ∷ name_at positions pair.0 ∷ name_at positions pair.1 ∷ [])

-- `combined MOST NAME NAME ..`
abbrev pub combined_line : List Position → Combined → List ℕ
combined_line positions limit =
    line_of (codes "combined" ∷ number_text limit.most.0 ∷ map (name_at positions) limit.places)

-- the word for the end of the hold up to which a cumulative limit counts
abbrev pub end_word : Bool → List ℕ
end_word true = codes "forward"
end_word false = codes "aft"

-- `cumulative forward NAME MOST` or `cumulative aft NAME MOST`
abbrev pub cumulative_line : List Position → Cumulative → List ℕ
cumulative_line positions limit =
    line_of (codes "cumulative" ∷ end_word limit.forward ∷ name_at positions limit.place ∷ number_text limit.most.0 ∷ [])

-- the word for the side of a position: whether it is on the right
abbrev pub side_word : Bool → List ℕ
side_word true = codes "right"
side_word false = codes "left"

-- `side NAME left` or `side NAME right`
abbrev pub side_line : List Position → ℕ × Bool → List ℕ
side_line positions side = line_of (codes "side" ∷ name_at positions side.0 ∷ side_word side.1 ∷ [])

-- `lateral MOST`
abbrev pub lateral_line : ℕ → List ℕ
lateral_line most = line_of (codes "lateral" ∷ number_text most ∷ [])

-- `item ID MASS`
abbrev pub item_line : Item → List ℕ
item_line item = line_of (codes "item" ∷ item.id ∷ number_text item.mass.0 ∷ [])

-- `loose NAME MASS`
abbrev pub loose_line : List Position → Loose → List ℕ
loose_line positions load =
    line_of (codes "loose" ∷ name_at positions load.position ∷ number_text load.mass.0 ∷ [])

-- `base INDEX`
abbrev pub base_line : ℤ → List ℕ
base_line base = line_of (codes "base" ∷ index_text base ∷ [])

-- `window INDEX INDEX`
abbrev pub window_line : ℤ → ℤ → List ℕ
window_line low high = line_of (codes "window" ∷ index_text low ∷ index_text high ∷ [])

-- `ideal INDEX INDEX`
abbrev pub ideal_line : ℤ → ℤ → List ℕ
ideal_line low high = line_of (codes "ideal" ∷ index_text low ∷ index_text high ∷ [])

-- The text --------------------------------------------------------------------------------------

-- `TASK 1`, or `TASK 2` for a task with a lateral limit
abbrev pub header_line : Option Lateral → List ℕ
header_line None = codes "TASK 1"
header_line (Some lateral) = codes "TASK 2"

-- the lines of the lateral limit, where there is one
abbrev pub lateral_lines : List Position → Option Lateral → List (List ℕ)
lateral_lines positions None = []
lateral_lines positions (Some lateral) = map (side_line positions) lateral.sides ++ (lateral_line lateral.most.0 ∷ [])

-- the lines of a task, in their order
abbrev pub task_lines : Problem → List (List ℕ)
task_lines t =
    (header_line t.hold.lateral ∷ [])
    ++ map position_line t.hold.positions
    ++ map (exclude_line t.hold.positions) t.hold.excludes
    ++ map (combined_line t.hold.positions) t.hold.combined
    ++ map (cumulative_line t.hold.positions) t.hold.cumulative
    ++ lateral_lines t.hold.positions t.hold.lateral
    ++ map item_line t.items
    ++ map (loose_line t.hold.positions) t.loose
    ++ (base_line t.base ∷ window_line t.low t.high ∷ ideal_line t.ideal_low t.ideal_high ∷ codes "END" ∷ [])

-- Spellings of the parts ------------------------------------------------------------------------

-- a bulk position names no kinds, and another at least one
abbrev pub NamesKindsUnlessBulk : Bool → List Fit → Type 0
NamesKindsUnlessBulk true fits = fits ≡ []
NamesKindsUnlessBulk false fits = 1 ≤ length fits

-- each part of the position is in its spelling
pub record IsSpelledPosition (q : Position) : Type 0 where
  pub name : IsName q.name
  pub compartment : q.compartment ≤ 9
  pub influence : IsSignedNumber q.influence
  pub some : NamesKindsUnlessBulk q.bulk q.fits
  pub kinds : All (λ (fit : Fit). IsKind fit.kind) q.fits
  pub masses : All (λ (fit : Fit). IsNumber fit.most.0) q.fits

-- both positions of the pair are named
abbrev pub IsSpelledExclude : List Position → ℕ × ℕ → Type 0
IsSpelledExclude positions pair = IsNamed positions pair.0 × IsNamed positions pair.1

-- at least one position, each named, and the greatest mass in its spelling
pub record IsSpelledCombined (positions : List Position) (limit : Combined) : Type 0 where
  pub some : 1 ≤ length limit.places
  pub places : All (IsNamed positions) limit.places
  pub most : IsNumber limit.most.0

-- the position named, and the greatest mass in its spelling
pub record IsSpelledCumulative (positions : List Position) (limit : Cumulative) : Type 0 where
  pub place : IsNamed positions limit.place
  pub most : IsNumber limit.most.0

-- the position named
abbrev pub IsSpelledSide : List Position → ℕ × Bool → Type 0
IsSpelledSide positions side = IsNamed positions side.0

-- each position named, and the greatest difference in its spelling
pub record IsSpelledLateral (positions : List Position) (limit : Lateral) : Type 0 where
  pub sides : All (IsSpelledSide positions) limit.sides
  pub most : IsNumber limit.most.0

-- the identity and the mass in their spelling
pub record IsSpelledItem (item : Item) : Type 0 where
  pub id : IsUldId item.id
  pub mass : IsNumber item.mass.0

-- the position named, and the mass in its spelling
pub record IsSpelledLoose (positions : List Position) (load : Loose) : Type 0 where
  pub position : IsNamed positions load.position
  pub mass : IsNumber load.mass.0

-- each part of the task is in its spelling
pub record IsSpelled (t : Problem) : Type 0 where
  pub positions : All IsSpelledPosition t.hold.positions
  pub excludes : All (IsSpelledExclude t.hold.positions) t.hold.excludes
  pub combined : All (IsSpelledCombined t.hold.positions) t.hold.combined
  pub cumulative : All (IsSpelledCumulative t.hold.positions) t.hold.cumulative
  pub lateral : IfSome t.hold.lateral (IsSpelledLateral t.hold.positions)
  pub items : All IsSpelledItem t.items
  pub loose : All (IsSpelledLoose t.hold.positions) t.loose
  pub base : IsIndex t.base
  pub low : IsIndex t.low
  pub high : IsIndex t.high
  pub ideal_low : IsIndex t.ideal_low
  pub ideal_high : IsIndex t.ideal_high

-- the bytes spell the task: they are its text, and each part of it is in its spelling
pub record Spells (text : List ℕ) (t : Problem) : Type 0 where
  pub is : text ≡ text_of (task_lines t)
  pub spelled : IsSpelled t
