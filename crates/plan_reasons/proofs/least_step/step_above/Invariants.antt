use Rattle.std.proofs.Common.{◌<◌, ◌≤◌, ◌-◌}
use Rattle.cert_checker.specs.Claims.{HasNoPlacement}
use Rattle.plan_reasons.specs.Decisions.{HasPlan}
use Rattle.plan_reasons.specs.Limits.{loosened, slack}
use Rattle.plan_reasons.proofs.least_step.step_above.Given as goal

-- the limit admits no plan at the one step and one at the other
abbrev pub invariant-loop-none : goal.invariant-loop-none
invariant-loop-none g l = record {
  apart : l.none < l.plan;
  within : l.plan ≤ slack l.task l.limit;
  below : HasNoPlacement (loosened l.task l.limit l.none);
  above : HasPlan (loosened l.task l.limit l.plan);
}

abbrev pub decreases-loop-none : goal.decreases-loop-none
decreases-loop-none g l = l.plan - l.none
