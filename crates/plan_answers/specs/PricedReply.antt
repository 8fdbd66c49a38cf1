-- What is read, searched and judged of certificates with prices.
use Rattle.std.specs.Prelude.{◌≡◌, ℕ, ◌<◌, ◌≤◌, List, length, Some, None}
use Rattle.hold_limits.specs.Problem.{Problem}
use Rattle.hold_limits.specs.Placement.{IsBest}
use Rattle.certificate.specs.Evidence.{claimed}
use Rattle.certificate.specs.Good.{AreAtMost}
use Rattle.certificate.specs.declared.fault.CertFault.{CertFault}
use Rattle.cert_checker.specs.Claims.{HasNoPlacement}
use Rattle.best_first.specs.Promising.{AreMoreThan}
use Rattle.placer.specs.AnswerText.{budget_text}
use Rattle.priced_certificate.specs.PricedText.{Spells}
use Rattle.priced_certificate.specs.Refusals.{IsRefused}
use Rattle.priced_certificate.specs.declared.parts.PricedCertificate.{PricedCertificate}
use Rattle.priced_checker.specs.Good.{IsGoodPricedFor}
use Rattle.priced_checker.specs.FirstReason.{IsFirstPricedReasonFor}
use Rattle.priced_checker.specs.declared.reject.PricedReject.{PricedReject}
use Rattle.priced_placer.specs.PriceNear.{IsPriceNear, IsPriceNearCertificate}
use Rattle.priced_placer.specs.AnswerText.{priced_text}
use Rattle.task_answers.specs.declared.reply.Outcome.{Outcome}
use Rattle.task_answers.specs.declared.reply.Outcome.TheVariants.{Done, NothingFits, OverBudget, Rejected}
use Rattle.plan_answers.specs.ReplyText.{long_text, IsCertificateFaultLine, good_text, rejected_text}
use Rattle.task_answers.specs.Limits.{longest_priced}
use Rattle.task_answers.specs.Limits.{greatest_priced_budget}
use Rattle.plan_answers.specs.Claims.{IsTrueOf}

-- the bytes of a file are not too many, and spell this certificate with prices for the task
pub record IsPricedIn (t : Problem) (bytes : List ℕ) (c : PricedCertificate) : Type 0 where
  pub short : length bytes ≤ longest_priced
  pub spelled : Spells t.hold.positions bytes c

-- the bytes of a file with a certificate with prices are refused with this line
pub data IsPricedRefusal (t : Problem) (bytes : List ℕ) : List ℕ → Type 0 where
  -- they are too many
  too_long : longest_priced < length bytes → IsPricedRefusal t bytes long_text
  -- they spell no certificate with prices: this is their first fault
  no_certificate : (fault : CertFault) (line : List ℕ) → length bytes ≤ longest_priced → IsRefused t.hold.positions bytes fault
      → IsCertificateFaultLine fault line → IsPricedRefusal t bytes line

-- the price-near certificate of the task, which is good; and no more prefixes are price-near than the budget
pub record IsPricedEvidence (t : Problem) (budget : ℕ) (c : PricedCertificate) : Type 0 where
  pub near : IsPriceNearCertificate t c
  pub good : IsGoodPricedFor t c
  pub enough : AreAtMost (IsPriceNear t) budget

-- the placement of a task by a search with prices that has this budget: an outcome and its text. What is printed with a certificate fits
-- a file and is its text, unless the budget is over the greatest one
pub data IsPricedPlacing (t : Problem) (budget : ℕ) : Outcome → List ℕ → Type 0 where
  -- the best plan
  plan : (path : List ℕ) (c : PricedCertificate) → IsBest t path → claimed c.claim ≡ Some path → IsPricedEvidence t budget c
      → (budget ≤ greatest_priced_budget → IsPricedIn t (priced_text t c) c) → IsPricedPlacing t budget Done (priced_text t c)
  -- nothing fits, and no path is admissible
  nothing_fits : (c : PricedCertificate) → HasNoPlacement t → claimed c.claim ≡ None → IsPricedEvidence t budget c
      → (budget ≤ greatest_priced_budget → IsPricedIn t (priced_text t c) c) → IsPricedPlacing t budget NothingFits (priced_text t c)
  -- more prefixes are price-near than the budget
  over_budget : AreMoreThan (IsPriceNear t) budget → IsPricedPlacing t budget OverBudget (budget_text budget)

-- the judgement of a certificate with prices for a task
pub data IsPricedJudgement (t : Problem) (c : PricedCertificate) : Outcome → List ℕ → Type 0 where
  -- it is good, so that what it claims is true
  good : IsGoodPricedFor t c → IsTrueOf t (claimed c.claim) → IsPricedJudgement t c Done (good_text c.claim)
  -- this is the first reason for which it is not good
  rejected : (reason : PricedReject) → IsFirstPricedReasonFor t c reason → IsPricedJudgement t c Rejected (rejected_text t reason)
