-- what an answer with prices says
use Rattle.std.specs.Prelude.{◌≡◌, ℕ, IsSome, IsNone}
use Rattle.hold_limits.specs.Problem.{Problem}
use Rattle.certificate.specs.Evidence.{claimed}
use Rattle.certificate.specs.Good.{AreAtMost}
use Rattle.best_first.specs.Promising.{AreMoreThan}
use Rattle.priced_certificate.specs.declared.parts.PricedCertificate.{PricedCertificate}
use Rattle.priced_checker.specs.Good.{IsGoodPricedFor}
use Rattle.priced_placer.specs.PriceNear.{IsPriceNear, IsPriceNearCertificate}
use Rattle.priced_placer.specs.declared.answer.PricedAnswer.{PricedAnswer}
use Rattle.priced_placer.specs.declared.answer.PricedAnswer.TheVariants.{Best, NoneFits, Budget}

-- P holds of the certificate, if the answer is a best path
abbrev pub IfBest : PricedAnswer → (PricedCertificate → Type 0) → Type 0
IfBest (Best c) P = P c
IfBest (NoneFits c) P = Unit {0}
IfBest (Budget n) P = Unit {0}

-- P holds of the certificate, if the answer is that nothing fits
abbrev pub IfNoneFits : PricedAnswer → (PricedCertificate → Type 0) → Type 0
IfNoneFits (Best c) P = Unit {0}
IfNoneFits (NoneFits c) P = P c
IfNoneFits (Budget n) P = Unit {0}

-- P holds of the certificate, if the answer has one
abbrev pub IfCertified : PricedAnswer → (PricedCertificate → Type 0) → Type 0
IfCertified (Best c) P = P c
IfCertified (NoneFits c) P = P c
IfCertified (Budget n) P = Unit {0}

-- P holds of the number, if the answer is that the budget is spent
abbrev pub IfBudget : PricedAnswer → (ℕ → Type 0) → Type 0
IfBudget (Best c) P = Unit {0}
IfBudget (NoneFits c) P = Unit {0}
IfBudget (Budget n) P = P n

-- What an answer to a task says, where the search had this budget: the best path or that there is no placement, each with the price-near
-- certificate of the task, which is good; or that more prefixes are price-near than the budget.
pub record IsPricedAnswerTo (t : Problem) (budget : ℕ) (answer : PricedAnswer) : Type 0 where
  pub best : IfBest answer (λ c. IsSome (claimed c.claim))
  pub none : IfNoneFits answer (λ c. IsNone (claimed c.claim))
  pub near : IfCertified answer (IsPriceNearCertificate t)
  pub good : IfCertified answer (IsGoodPricedFor t)
  pub enough : IfCertified answer (λ _. AreAtMost (IsPriceNear t) budget)
  pub spent : IfBudget answer (λ n. n ≡ budget)
  pub over : IfBudget answer (λ n. AreMoreThan (IsPriceNear t) n)
