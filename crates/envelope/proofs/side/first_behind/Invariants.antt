use Rattle.std.proofs.Common.{take}
use Rattle.envelope.specs.Edges.{IsOnOrForwardOf}
use Rattle.envelope.proofs.SideLemmas.{FirstOutside}
use Rattle.envelope.proofs.side.first_behind.Given as goal

abbrev pub invariant-loop-corner : goal.invariant-loop-corner
invariant-loop-corner l = FirstOutside (λ c. IsOnOrForwardOf l.aft c.mass.0 c.index.0) (take l.corner-index l.corners) l.first
