-- positions by their names
use Rattle.std.specs.Prelude.{ℕ, List, Option, position, bytes_eq}
use Rattle.hold_parts.specs.declared.parts.Position.{Position}

-- the number of the first position with this name
unfoldable pub number_named : List Position → List ℕ → Option ℕ
number_named positions name = position (λ (p : Position). bytes_eq p.name name) positions
