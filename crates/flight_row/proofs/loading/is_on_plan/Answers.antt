use Rattle.std.proofs.Common.{refl}
use Rattle.std.proofs.lemmas.Bool.{false≢true}
use Rattle.flight_row.proofs.PlanLemmas.{on_plan, not_on_plan}
use Rattle.flight_row.proofs.loading.is_on_plan.Goals as goal

pub returns-in-ZeroFuelEnvelope : goal.returns-in-ZeroFuelEnvelope
returns-in-ZeroFuelEnvelope c = (λ yes. on_plan c.args.rule c.in-ZeroFuelEnvelope.is, λ listed. refl)

pub returns-in_default : goal.returns-in_default
returns-in_default c =
    let d = c.in_default in (
      λ no. absurd (false≢true no),
      λ listed. absurd (not_on_plan c.args.rule d.not-ZeroFuelEnvelope d.not-TakeOffEnvelope d.not-LandingEnvelope d.not-Hold d.not-Lateral listed),
    )
