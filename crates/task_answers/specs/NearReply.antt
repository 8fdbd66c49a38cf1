-- What is searched for, and printed with a certificate of cuts.
use Rattle.std.specs.Prelude.{◌≡◌, ℕ, ◌≤◌, List, length, Some, None}
use Rattle.hold_limits.specs.Problem.{Problem}
use Rattle.hold_limits.specs.Placement.{IsBest}
use Rattle.certificate.specs.Evidence.{claimed}
use Rattle.certificate.specs.Good.{AreAtMost}
use Rattle.certificate.specs.CertificateText.{Spells}
use Rattle.certificate.specs.declared.parts.Certificate.{Certificate}
use Rattle.cert_checker.specs.Claims.{HasNoPlacement, IsGoodFor}
use Rattle.placer.specs.Near.{AreMoreThan, IsNear, IsNearCertificate}
use Rattle.placer.specs.AnswerText.{evidence_text, budget_text}
use Rattle.task_answers.specs.declared.reply.Outcome.{Outcome}
use Rattle.task_answers.specs.declared.reply.Outcome.TheVariants.{Done, NothingFits, OverBudget}
use Rattle.task_answers.specs.Limits.{longest_certificate, greatest_budget}
use Rattle.task_answers.specs.Kinds.{BeginsWithCuts}

-- the bytes of a file are not too many, and spell this certificate for the task
pub record IsCertificateIn (t : Problem) (bytes : List ℕ) (c : Certificate) : Type 0 where
  pub short : length bytes ≤ longest_certificate
  pub spelled : Spells t.hold.positions bytes c

-- the near certificate of the task, which is good; and no more prefixes are near than the budget
pub record IsEvidence (t : Problem) (budget : ℕ) (c : Certificate) : Type 0 where
  pub near : IsNearCertificate t c
  pub good : IsGoodFor t c
  pub enough : AreAtMost (IsNear t) budget

-- what is printed with the certificate fits a file, is its text, and begins with none of trees
pub record IsReadBack (t : Problem) (c : Certificate) : Type 0 where
  pub spelled : IsCertificateIn t (evidence_text t c) c
  pub kind : BeginsWithCuts (evidence_text t c)

-- the placement of a task with a budget: an outcome and its text. A budget over the greatest one may come to a certificate that no
-- text spells
pub data IsPlacing (t : Problem) (budget : ℕ) : Outcome → List ℕ → Type 0 where
  -- the best plan
  plan : (path : List ℕ) (c : Certificate) → IsBest t path → claimed c.claim ≡ Some path → IsEvidence t budget c
      → (budget ≤ greatest_budget → IsReadBack t c) → IsPlacing t budget Done (evidence_text t c)
  -- nothing fits, and no path is admissible
  nothing_fits : (c : Certificate) → HasNoPlacement t → claimed c.claim ≡ None → IsEvidence t budget c
      → (budget ≤ greatest_budget → IsReadBack t c) → IsPlacing t budget NothingFits (evidence_text t c)
  -- more prefixes are near than the budget
  over_budget : AreMoreThan (IsNear t) budget → IsPlacing t budget OverBudget (budget_text budget)
