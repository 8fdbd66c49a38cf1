-- Tasks whose names can stand in a line.
use Rattle.std.specs.Prelude.{All}
use Rattle.hold_parts.specs.Spellings.{IsName, IsUldId}
use Rattle.hold_parts.specs.declared.parts.Item.{Item}
use Rattle.hold_parts.specs.declared.parts.Position.{Position}
use Rattle.hold_limits.specs.Problem.{Problem}

-- each position has a name, and each container an identity
pub record IsNamedTask (t : Problem) : Type 0 where
  pub names : All (λ (q : Position). IsName q.name) t.hold.positions
  pub ids : All (λ (item : Item). IsUldId item.id) t.items
