-- whether a task has a plan, and what the judge says to that
use Rattle.std.specs.Prelude.{ℕ, List}
use Rattle.hold_limits.specs.Placement.{IsAdmissible}
use Rattle.hold_limits.specs.Problem.{Problem}
use Rattle.cert_checker.specs.Claims.{HasNoPlacement}
use Rattle.placer.specs.Near.{AreMoreThan, IsNear}
use Rattle.task_answers.specs.TreeReply.{near_budget}
use Rattle.plan_reasons.specs.declared.decision.Decision.{Decision}
use Rattle.plan_reasons.specs.declared.decision.Decision.TheVariants.{Plan, NoPlan, Open}

-- some path is admissible
abbrev pub HasPlan : Problem → Type 0
HasPlan t = (path : List ℕ) × IsAdmissible t path

-- so many looks do not decide the task: more prefixes are near than the best-first search behind them may look at
abbrev pub IsOpen : Problem → ℕ → Type 0
IsOpen t looks = AreMoreThan (IsNear t) (near_budget looks)

abbrev pub IsDecision : Problem → ℕ → Decision → Type 0
IsDecision t looks Plan = HasPlan t
IsDecision t looks NoPlan = HasNoPlacement t
IsDecision t looks Open = IsOpen t looks
