-- Points, each a mass with its index, and the straight lines between neighbouring ones. `point` gives the point of an element.
use Rattle.std.specs.Prelude.{ℕ, ◌+◌, ◌<◌, List, [], ◌∷◌, Option, All, nat_le, position}
use Rattle.std.specs.Option.{option_map}
use Rattle.mass_units.specs.declared.line.Line.{Line}
use Rattle.mass_units.specs.declared.line.Point.{Point}

-- the line from one point to the next
abbrev pub line_between : Point → Point → Line
line_between a b = record { from = a.mass; at_from = a.index; to = b.mass; at_to = b.index }

-- the lines between neighbouring points
abbrev pub lines : {A : Type 0} → (A → Point) → List A → List Line
lines point [] = []
lines point (a ∷ []) = []
lines point (a ∷ b ∷ rest) = line_between (point a) (point b) ∷ lines point (b ∷ rest)

-- each point has a greater mass than the one before it
abbrev pub IsRising : {A : Type 0} → (A → Point) → List A → Type 0
IsRising point points = All (λ line. line.from.0 < line.to.0) (lines point points)

-- the place of the first point whose mass is not greater than that of the one before it
abbrev pub first_fall : {A : Type 0} → (A → Point) → List A → Option ℕ
first_fall point points = option_map (λ before. before + 1) (position (λ line. nat_le line.to.0 line.from.0) (lines point points))
