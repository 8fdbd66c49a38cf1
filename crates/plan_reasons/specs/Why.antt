-- why a task has no plan
use Rattle.std.specs.Prelude.{ℕ}
use Rattle.hold_limits.specs.Problem.{Problem}
use Rattle.cert_checker.specs.Claims.{HasNoPlacement}
use Rattle.plan_reasons.specs.Decisions.{HasPlan, IsOpen}
use Rattle.plan_reasons.specs.Findings.{AreTried}
use Rattle.plan_reasons.specs.Limits.{limits_of}
use Rattle.plan_reasons.specs.declared.reasons.Reasons.{Reasons}
use Rattle.plan_reasons.specs.declared.reasons.Why.{Why}
use Rattle.plan_reasons.specs.declared.reasons.Why.TheVariants as answer

-- each limit of the task was tried
abbrev pub AreReasons : Problem → ℕ → Reasons → Type 0
AreReasons t looks reasons = AreTried t looks (limits_of t) reasons.tried.items

-- the answer to the question why a task has no plan: it has one, it has none, or so many looks do not decide that
abbrev pub IsWhy : Problem → ℕ → Why → Type 0
IsWhy t looks answer.Plan = HasPlan t
IsWhy t looks (answer.NoPlan reasons) = HasNoPlacement t × AreReasons t looks reasons
IsWhy t looks (answer.Open reasons) = IsOpen t looks × AreReasons t looks reasons
