-- positions by their names
use Rattle.std.specs.Prelude.{◌≢◌, ℕ, ◌<◌, List, length, take, All, min}
use Rattle.hold_parts.specs.declared.parts.Position.{Position}
use Rattle.hold_limits.specs.Layout.{name_at}

-- the number is that of the first position with its name, so the name says which position is meant
pub record IsNamed (positions : List Position) (q : ℕ) : Type 0 where
  pub known : q < length positions
  pub first : All (λ (earlier : Position). earlier.name ≢ name_at positions q) (take q positions)

-- A hold has at most 64 positions. A text may have more, and is then refused for having too many. So a position
-- number is kept as a byte, and as 255 where it does not fit.
abbrev pub byte_of : ℕ → ℕ
byte_of number = min number 255
