-- what is answered to the question why a task has no plan
use Rattle.std.specs.Prelude.{◌≡◌, ℕ, zero, suc, List}
use Rattle.hold_limits.specs.Problem.{Problem}
use Rattle.task_answers.specs.declared.reply.Outcome.{Outcome}
use Rattle.task_answers.specs.declared.reply.Outcome.TheVariants.{Done, NothingFits, Undecided}
use Rattle.plan_reasons.specs.Why.{IsWhy}
use Rattle.plan_reasons.specs.WhyText.{unknown_in, why_text}
use Rattle.plan_reasons.specs.declared.reasons.Why.{Why}
use Rattle.plan_reasons.specs.declared.reasons.Why.TheVariants as answer

-- nothing fits, where so many questions were not decided
abbrev pub outcome_with : ℕ → Outcome
outcome_with zero = NothingFits
outcome_with (suc n) = Undecided

-- a plan, none, or that something was not decided
abbrev pub outcome_of : Why → Outcome
outcome_of answer.Plan = Done
outcome_of (answer.NoPlan reasons) = outcome_with (unknown_in reasons)
outcome_of (answer.Open reasons) = Undecided

-- the answer with so many looks for each question: an outcome and its text
pub record IsExplanation (t : Problem) (looks : ℕ) (outcome : Outcome) (text : List ℕ) : Type 0 where
  pub why : Why
  pub right : IsWhy t looks why
  pub outcome_is : outcome ≡ outcome_of why
  pub text_is : text ≡ why_text t why
