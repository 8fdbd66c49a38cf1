-- What is read and judged of certificates of cuts, beside what is searched for.
use Rattle.std.specs.Prelude.{ℕ, ◌<◌, ◌≤◌, List, length}
use Rattle.hold_limits.specs.Problem.{Problem}
use Rattle.certificate.specs.Evidence.{claimed}
use Rattle.certificate.specs.Refusals.{IsRefused}
use Rattle.certificate.specs.declared.fault.CertFault.{CertFault}
use Rattle.certificate.specs.declared.parts.Certificate.{Certificate}
use Rattle.cert_checker.specs.Claims.{IsGoodFor}
use Rattle.cert_checker.specs.FirstReason.{IsFirstReason}
use Rattle.cert_checker.specs.declared.reject.Reject.{Reject}
use Rattle.priced_checker.specs.FirstReason.{priced_reason}
use Rattle.task_answers.specs.declared.reply.Outcome.{Outcome}
use Rattle.task_answers.specs.declared.reply.Outcome.TheVariants.{Done, Rejected}
use Rattle.task_answers.specs.Limits.{longest_certificate}
use Rattle.plan_answers.specs.ReplyText.{IsCertificateFaultLine, long_text, good_text, rejected_text}
use Rattle.plan_answers.specs.Claims.{IsTrueOf}
pub use Rattle.task_answers.specs.NearReply.{IsCertificateIn, IsEvidence, IsReadBack, IsPlacing}
pub use Rattle.task_answers.specs.NearReply.IsPlacing.{plan, nothing_fits, over_budget}

-- the bytes of a certificate's file are refused with this line
pub data IsCertificateRefusal (t : Problem) (bytes : List ℕ) : List ℕ → Type 0 where
  -- they are too many
  too_long : longest_certificate < length bytes → IsCertificateRefusal t bytes long_text
  -- they spell no certificate: this is their first fault
  no_certificate : (fault : CertFault) (line : List ℕ) → length bytes ≤ longest_certificate
      → IsRefused t.hold.positions bytes fault → IsCertificateFaultLine fault line → IsCertificateRefusal t bytes line

-- the judgement of a certificate for a task
pub data IsJudgement (t : Problem) (c : Certificate) : Outcome → List ℕ → Type 0 where
  -- it is good, so that what it claims is true
  good : IsGoodFor t c → IsTrueOf t (claimed c.claim) → IsJudgement t c Done (good_text c.claim)
  -- this is the first reason for which it is not good
  rejected : (reason : Reject) → IsFirstReason t (claimed c.claim) c.cuts c.expanded reason
      → IsJudgement t c Rejected (rejected_text t (priced_reason reason))
