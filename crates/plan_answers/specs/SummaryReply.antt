-- What is answered of generated loads.
use Rattle.std.specs.Prelude.{◌≡◌, ℕ, List, Some, None}
use Rattle.hold_limits.specs.Placement.{IsBest}
use Rattle.certificate.specs.Evidence.{claimed}
use Rattle.certificate.specs.declared.parts.Certificate.{Certificate}
use Rattle.cert_checker.specs.Claims.{HasNoPlacement}
use Rattle.placer.specs.Near.{AreMoreThan, IsNear}
use Rattle.generated_load.specs.Load.{generated_problem}
use Rattle.task_answers.specs.declared.reply.Outcome.{Outcome}
use Rattle.task_answers.specs.declared.reply.Outcome.TheVariants.{Done, OverBudget}
use Rattle.task_answers.specs.Limits.{usual_budget}
use Rattle.plan_answers.specs.ReplyText.{plan_summary, none_summary, budget_summary}
use Rattle.plan_answers.specs.NearReply.{IsEvidence}

-- the summary of the placement of a generated load
pub data IsSummary (number : ℕ) : Outcome → List ℕ → Type 0 where
  plan_summed : (path : List ℕ) (c : Certificate) → IsBest (generated_problem number) path → claimed c.claim ≡ Some path
      → IsEvidence (generated_problem number) usual_budget c → IsSummary number Done (plan_summary number path c)
  none_summed : (c : Certificate) → HasNoPlacement (generated_problem number) → claimed c.claim ≡ None
      → IsEvidence (generated_problem number) usual_budget c → IsSummary number Done (none_summary number c)
  budget_summed : AreMoreThan (IsNear (generated_problem number)) usual_budget → IsSummary number OverBudget (budget_summary number)
