use Rattle.std.proofs.Common.{◌≤ℤ◌}
use Rattle.mass_units.specs.Line.{Spans, IsOnOrForward}
use Rattle.envelope.proofs.SideLemmas.{IsBound}
use Rattle.envelope.proofs.side.aftmost.Given as goal

abbrev pub invariant-loop-edge : goal.invariant-loop-edge
invariant-loop-edge l = IsBound (λ t z. z ≤ℤ t) (λ e. Spans e l.mass.0) (λ e z. IsOnOrForward e l.mass.0 z) l.yielded l.aftmost
