-- What is read and judged of certificates of trees, beside what is searched for.
use Rattle.std.specs.Prelude.{ℕ, ◌<◌, ◌≤◌, List, length}
use Rattle.hold_limits.specs.Problem.{Problem}
use Rattle.certificate.specs.Evidence.{claimed}
use Rattle.certificate.specs.declared.fault.CertFault.{CertFault}
use Rattle.tree_certificate.specs.Listed.{ListedTrees}
use Rattle.tree_certificate.specs.Refusals.{IsRefused}
use Rattle.tree_checker.specs.GoodTrees.{IsGoodTrees}
use Rattle.tree_checker.specs.FirstReason.{IsRejected}
use Rattle.tree_checker.specs.declared.rejection.TreeRejection.{TreeRejection}
use Rattle.task_answers.specs.declared.reply.Outcome.{Outcome}
use Rattle.task_answers.specs.declared.reply.Outcome.TheVariants.{Done, Rejected}
use Rattle.task_answers.specs.Limits.{longest_certificate}
use Rattle.plan_answers.specs.ReplyText.{long_text, IsCertificateFaultLine, IsTreeRejectionLine, good_text}
use Rattle.plan_answers.specs.Claims.{IsTrueOf}
pub use Rattle.task_answers.specs.TreeReply.{AreTreesIn, AreReadBack, near_budget, IsTreePlacing}
pub use Rattle.task_answers.specs.TreeReply.IsTreePlacing.{plan, nothing_fits, near_plan, nothing_near, undecided}

-- the bytes of a file with a certificate of trees are refused with this line
pub data IsTreeRefusal (t : Problem) (bytes : List ℕ) : List ℕ → Type 0 where
  -- they are too many
  too_long : longest_certificate < length bytes → IsTreeRefusal t bytes long_text
  -- they spell no certificate of trees: this is their first fault
  no_trees : (fault : CertFault) (line : List ℕ) → length bytes ≤ longest_certificate → IsRefused t.hold.positions bytes fault
      → IsCertificateFaultLine fault line → IsTreeRefusal t bytes line

-- the judgement of a certificate of trees for a task
pub data IsTreeJudgement (t : Problem) (c : ListedTrees) : Outcome → List ℕ → Type 0 where
  -- it is good, so that what it claims is true
  good : IsGoodTrees t c → IsTrueOf t (claimed c.claim) → IsTreeJudgement t c Done (good_text c.claim)
  -- it is not good, and this is the first reason
  rejected : (reason : TreeRejection) (line : List ℕ) → (IsGoodTrees t c → ⊥) → IsRejected t c reason → IsTreeRejectionLine reason line
      → IsTreeJudgement t c Rejected line
