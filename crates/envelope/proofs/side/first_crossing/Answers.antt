use Rattle.std.proofs.Common.{arith, inl, inr, ◌≡◌}
use Rattle.std.proofs.lemmas.Bool.{cases_lt}
use Rattle.envelope.specs.Outline.{CrossesAt}
use Rattle.envelope.proofs.side.first_crossing.Goals as goal

pub returns-in-Some-Some-clause-some : goal.returns-in-Some-Some-clause-some
unfolding CrossesAt
returns-in-Some-Some-clause-some c =
    elim (cases_lt c.in-Some-Some.a.0 c.in-Some-Some.b.0) [
      | inl lt ↦ let same : c.in-Some-Some.a.0 ≡ c.min.result = omega arith in inl (rw (← same) c.in-Some-Some.ensures.some)
      | inr le ↦ let same : c.in-Some-Some.b.0 ≡ c.min.result = omega arith in inr (rw (← same) c.in-Some-Some.ensures'.some)
    ]
