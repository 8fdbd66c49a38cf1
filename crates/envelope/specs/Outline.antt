-- An envelope as its two sides, and what lies inside.
use Rattle.std.specs.Prelude.{◌≡◌, ℕ, ◌-◌, ◌≤◌, List, length, Option, ℤ, All, Any, ◌⊎◌, slice_get}
use Rattle.std.specs.Option.{option_map}
use Rattle.envelope.specs.declared.corner.Corner.{Corner}
use Rattle.envelope.specs.Edges.{IsRising, IsOnOrAftOf, IsOnOrForwardOf}

-- the corners of the forward and of the aft side, each in the order of its masses
pub record Outline : Type 0 where
  pub forward : List Corner
  pub aft : List Corner

-- at that mass the index lies on the forward side or aft of it, and on the aft side or forward of it
abbrev pub IsInside : Outline → ℕ → ℤ → Type 0
IsInside outline mass index = IsOnOrAftOf outline.forward mass index × IsOnOrForwardOf outline.aft mass index

-- a side has 2 to 64 corners
abbrev pub HasCorners : List Corner → Type 0
HasCorners corners = (2 ≤ length corners) × (length corners ≤ 64)

abbrev pub first_mass : List Corner → Option ℕ
first_mass corners = option_map (λ corner. corner.mass.0) (slice_get corners 0)

abbrev pub last_mass : List Corner → Option ℕ
last_mass corners = option_map (λ corner. corner.mass.0) (slice_get corners (length corners - 1))

-- both sides begin at one mass and end at one mass
abbrev pub SameSpan : Outline → Type 0
SameSpan outline = (first_mass outline.forward ≡ first_mass outline.aft) × (last_mass outline.forward ≡ last_mass outline.aft)

-- the forward edge is greater than the aft edge at the mass of a corner: a forward corner lies aft of the aft side, or an
-- aft corner forward of the forward side
unfoldable pub CrossesAt : Outline → ℕ → Type 0
CrossesAt outline mass =
    Any (λ corner. (corner.mass.0 ≡ mass) × ¬ (IsOnOrForwardOf outline.aft corner.mass.0 corner.index.0)) outline.forward
    ⊎ Any (λ corner. (corner.mass.0 ≡ mass) × ¬ (IsOnOrAftOf outline.forward corner.mass.0 corner.index.0)) outline.aft

-- the forward edge is nowhere greater at a corner: each forward corner lies on the aft side or forward of it, and each aft
-- corner on the forward side or aft of it
abbrev pub IsApart : Outline → Type 0
IsApart outline =
    All (λ corner. IsOnOrForwardOf outline.aft corner.mass.0 corner.index.0) outline.forward
    × All (λ corner. IsOnOrAftOf outline.forward corner.mass.0 corner.index.0) outline.aft

-- each of these corners is inside
abbrev pub AreInside : Outline → List Corner → Type 0
AreInside outline corners = All (λ corner. IsInside outline corner.mass.0 corner.index.0) corners

-- what holds of each envelope
pub record IsEnvelope (outline : Outline) : Type 0 where
  pub counts : HasCorners outline.forward × HasCorners outline.aft
  pub rising : IsRising outline.forward × IsRising outline.aft
  pub span : SameSpan outline
  pub apart : IsApart outline
