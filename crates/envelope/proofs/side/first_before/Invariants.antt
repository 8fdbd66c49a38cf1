use Rattle.std.proofs.Common.{take}
use Rattle.envelope.specs.Edges.{IsOnOrAftOf}
use Rattle.envelope.proofs.SideLemmas.{FirstOutside}
use Rattle.envelope.proofs.side.first_before.Given as goal

abbrev pub invariant-loop-corner : goal.invariant-loop-corner
invariant-loop-corner l = FirstOutside (λ c. IsOnOrAftOf l.forward c.mass.0 c.index.0) (take l.corner-index l.corners) l.first
