-- The rows of a fuel table, the straight lines between neighbouring ones, and the index of a fuel mass.
use Rattle.std.specs.Prelude.{◌≡◌, ℕ, ◌<◌, ◌≤◌, List, [], ◌∷◌, length, Option, ℤ, All, Any, ◌⊎◌}
use Rattle.mass_units.specs.declared.line.Line.{Line}
use Rattle.mass_units.specs.declared.line.Point.{Point}
use Rattle.mass_units.specs.Polyline as polyline
use Rattle.mass_units.specs.Line.{Spans, IsFloor}
use Rattle.fuel_table.specs.declared.row.FuelRow.{FuelRow}

-- where the row stands
abbrev pub point_of : FuelRow → Point
point_of row = record { mass = row.fuel; index = row.index }

-- the lines between neighbouring rows
abbrev pub lines : List FuelRow → List Line
lines rows = polyline.lines point_of rows

-- each row has more fuel than the one before it
abbrev pub IsRising : List FuelRow → Type 0
IsRising rows = polyline.IsRising point_of rows

-- the place of the first row that has no more fuel than the one before it
abbrev pub first_fall : List FuelRow → Option ℕ
first_fall rows = polyline.first_fall point_of rows

-- n is the index of the fuel: some line spans the fuel, and on each that does n is the line's index rounded down. The one
-- row of a table of one row has its index at its own fuel
unfoldable pub IsFuelIndex : List FuelRow → ℕ → ℤ → Type 0
IsFuelIndex [] fuel n = ⊥
IsFuelIndex (row ∷ []) fuel n = (row.fuel.0 ≡ fuel) × (row.index.0 ≡ n)
IsFuelIndex (a ∷ b ∷ rows) fuel n =
    Any (λ line. Spans line fuel) (lines (a ∷ b ∷ rows)) × All (λ line. Spans line fuel → IsFloor line fuel n) (lines (a ∷ b ∷ rows))

-- the fuel is less than each row has, or more than each row has
abbrev pub IsOutside : List FuelRow → ℕ → Type 0
IsOutside rows fuel = All (λ row. fuel < row.fuel.0) rows ⊎ All (λ row. row.fuel.0 < fuel) rows

-- what holds of the rows of each table
pub record IsTable (rows : List FuelRow) : Type 0 where
  pub some : 1 ≤ length rows
  pub rising : IsRising rows
  pub most : length rows ≤ 256
