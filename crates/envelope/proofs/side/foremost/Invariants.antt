use Rattle.std.proofs.Common.{◌≤ℤ◌}
use Rattle.mass_units.specs.Line.{Spans, IsOnOrAft}
use Rattle.envelope.proofs.SideLemmas.{IsBound}
use Rattle.envelope.proofs.side.foremost.Given as goal

abbrev pub invariant-loop-edge : goal.invariant-loop-edge
invariant-loop-edge l = IsBound (λ t z. t ≤ℤ z) (λ e. Spans e l.mass.0) (λ e z. IsOnOrAft e l.mass.0 z) l.yielded l.foremost
