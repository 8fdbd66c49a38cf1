-- what an answer says
use Rattle.std.specs.Prelude.{◌≡◌, ℕ, IsSomeAnd}
use Rattle.hold_limits.specs.Problem.{Problem}
use Rattle.hold_limits.specs.Placement.{IsBest}
use Rattle.certificate.specs.Evidence.{claimed}
use Rattle.certificate.specs.Good.{AreAtMost}
use Rattle.cert_checker.specs.Certified.{Certified}
use Rattle.cert_checker.specs.Claims.{HasNoPlacement}
use Rattle.placer.specs.Near.{AreMoreThan, IsNear, IsNearCertificate}
use Rattle.placer.specs.declared.answer.Answer.{Answer}
use Rattle.placer.specs.declared.answer.Answer.TheVariants.{Best, NoneFits, Budget}

-- P holds of the evidence, if the answer is a best path
abbrev pub IfBest : Answer → (Certified → Type 0) → Type 0
IfBest (Best proven) P = P proven
IfBest (NoneFits no_plan) P = Unit {0}
IfBest (Budget n) P = Unit {0}

-- P holds of the evidence, if the answer is that nothing fits
abbrev pub IfNoneFits : Answer → (Certified → Type 0) → Type 0
IfNoneFits (Best proven) P = Unit {0}
IfNoneFits (NoneFits no_plan) P = P no_plan
IfNoneFits (Budget n) P = Unit {0}

-- P holds of the evidence, if the answer has any
abbrev pub IfCertified : Answer → (Certified → Type 0) → Type 0
IfCertified (Best proven) P = P proven
IfCertified (NoneFits no_plan) P = P no_plan
IfCertified (Budget n) P = Unit {0}

-- P holds of the number, if the answer is that the budget is spent
abbrev pub IfBudget : Answer → (ℕ → Type 0) → Type 0
IfBudget (Best proven) P = Unit {0}
IfBudget (NoneFits no_plan) P = Unit {0}
IfBudget (Budget n) P = P n

-- What an answer to a task says, where the search had this budget: a best path or that there is no placement, each with the near
-- certificate of the task, or that more prefixes are near than the budget.
pub record IsAnswerTo (t : Problem) (budget : ℕ) (answer : Answer) : Type 0 where
  pub best : IfBest answer (λ proven. proven.task ≡ t)
  pub path : IfBest answer (λ proven. IsSomeAnd (claimed proven.certificate.claim) (IsBest t))
  pub none : IfNoneFits answer (λ no_plan. no_plan.task ≡ t)
  pub nothing : IfNoneFits answer (λ _. HasNoPlacement t)
  pub near : IfCertified answer (λ certified. IsNearCertificate t certified.certificate)
  pub enough : IfCertified answer (λ _. AreAtMost (IsNear t) budget)
  pub spent : IfBudget answer (λ n. n ≡ budget)
  pub over : IfBudget answer (λ n. AreMoreThan (IsNear t) n)
