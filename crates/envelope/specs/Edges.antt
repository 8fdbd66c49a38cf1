-- One side of an envelope: the straight edges between its neighbouring corners.
use Rattle.std.specs.Prelude.{ℕ, List, Option, ℤ, All, Any}
use Rattle.mass_units.specs.declared.line.Line.{Line}
use Rattle.mass_units.specs.declared.line.Point.{Point}
use Rattle.mass_units.specs.Polyline as polyline
use Rattle.mass_units.specs.Polyline.{lines}
use Rattle.mass_units.specs.Line.{Spans, IsOnOrAft, IsOnOrForward}
use Rattle.envelope.specs.declared.corner.Corner.{Corner}

-- where the corner stands
abbrev pub point_of : Corner → Point
point_of corner = record { mass = corner.mass; index = corner.index }

-- the edges between neighbouring corners
abbrev pub edges : List Corner → List Line
edges corners = lines point_of corners

-- each corner has a greater mass than the one before it
abbrev pub IsRising : List Corner → Type 0
IsRising corners = polyline.IsRising point_of corners

-- the place of the first corner whose mass is not greater than that of the one before it
abbrev pub first_fall : List Corner → Option ℕ
first_fall corners = polyline.first_fall point_of corners

-- some edge spans the mass, and on each that does the index lies on the edge or aft of it
unfoldable pub IsOnOrAftOf : List Corner → ℕ → ℤ → Type 0
IsOnOrAftOf corners mass index =
    Any (λ edge. Spans edge mass) (edges corners) × All (λ edge. Spans edge mass → IsOnOrAft edge mass index) (edges corners)

-- some edge spans the mass, and on each that does the index lies on the edge or forward of it
unfoldable pub IsOnOrForwardOf : List Corner → ℕ → ℤ → Type 0
IsOnOrForwardOf corners mass index =
    Any (λ edge. Spans edge mass) (edges corners) × All (λ edge. Spans edge mass → IsOnOrForward edge mass index) (edges corners)
