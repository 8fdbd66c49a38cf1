use Rattle.std.proofs.Common.{◌≡◌, map, take, All}
use Rattle.plan_reasons.specs.Findings.{IsFinding}
use Rattle.plan_reasons.specs.declared.finding.TriedLimit.{TriedLimit}
use Rattle.plan_reasons.proofs.finding.try_limits.Given as goal

abbrev pub invariant-loop-limit : goal.invariant-loop-limit
invariant-loop-limit g l = record {
  all : map (λ (it : TriedLimit). it.limit) l.tried.items ≡ take l.limit-index l.limits;
  right : All (λ (it : TriedLimit). IsFinding l.task l.looks it.limit it.finding) l.tried.items;
}
