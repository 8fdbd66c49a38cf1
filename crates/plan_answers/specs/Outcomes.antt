-- What an answer of the search comes to.
use Rattle.std.specs.Prelude.{◌≡◌, ℕ, List, Some}
use Rattle.certificate.specs.Evidence.{claimed}
use Rattle.placer.specs.declared.answer.Answer.{Answer}
use Rattle.placer.specs.declared.answer.Answer.TheVariants.{Best, NoneFits, Budget}
use Rattle.priced_placer.specs.declared.answer.PricedAnswer.{PricedAnswer}
use Rattle.priced_placer.specs.declared.answer.PricedAnswer.TheVariants as priced
use Rattle.stop_placer.specs.declared.answer.StopAnswer.{StopAnswer}
use Rattle.stop_placer.specs.declared.answer.StopAnswer.TheVariants as stops
use Rattle.task_answers.specs.declared.reply.Outcome.{Outcome}
use Rattle.task_answers.specs.declared.reply.Outcome.TheVariants.{Done, NothingFits, OverBudget}
use Rattle.plan_answers.specs.ReplyText.{plan_summary, none_summary, budget_summary}

abbrev pub priced_outcome : PricedAnswer → Outcome
priced_outcome (priced.Best c) = Done
priced_outcome (priced.NoneFits c) = NothingFits
priced_outcome (priced.Budget n) = OverBudget

abbrev pub stop_outcome : StopAnswer → Outcome
stop_outcome (stops.Best path) = Done
stop_outcome stops.NoneFits = NothingFits
stop_outcome (stops.Budget n) = OverBudget

abbrev pub summary_outcome : Answer → Outcome
summary_outcome (Best proven) = Done
summary_outcome (NoneFits no_plan) = Done
summary_outcome (Budget n) = OverBudget

-- the text is the summary of the answer for the load that is made from the number
abbrev pub IsSummaryText : ℕ → Answer → List ℕ → Type 0
IsSummaryText number (Best proven) text =
    (path : List ℕ) → claimed proven.certificate.claim ≡ Some path → text ≡ plan_summary number path proven.certificate
IsSummaryText number (NoneFits no_plan) text = text ≡ none_summary number no_plan.certificate
IsSummaryText number (Budget n) text = text ≡ budget_summary number
