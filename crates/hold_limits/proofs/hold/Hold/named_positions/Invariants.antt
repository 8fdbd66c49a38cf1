use Rattle.std.proofs.Common.{All, take}
use Rattle.hold_parts.specs.Spellings.{IsName}
use Rattle.hold_parts.specs.declared.parts.Position.{Position}
use Rattle.hold_limits.proofs.hold.Hold.named_positions.Given as goal

abbrev pub invariant-loop-position : goal.invariant-loop-position
invariant-loop-position l = All (λ (q : Position). IsName q.name) (take l.position-index l.positions)
