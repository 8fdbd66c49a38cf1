-- Certificates of either kind: of cuts, or of trees.
use Rattle.std.specs.Prelude.{ℕ, ◌<◌, List, length}
use Rattle.hold_limits.specs.Problem.{Problem}
use Rattle.certificate.specs.declared.parts.Certificate.{Certificate}
use Rattle.tree_certificate.specs.Listed.{ListedTrees, listed_trees}
use Rattle.plan_answers.specs.declared.any_certificate.AnyCertificate.{AnyCertificate}
use Rattle.plan_answers.specs.declared.any_certificate.AnyCertificate.TheVariants.{OfCuts, OfTrees}
use Rattle.task_answers.specs.declared.reply.Outcome.{Outcome}
use Rattle.plan_answers.specs.ReplyText.{long_text}
use Rattle.task_answers.specs.Limits.{longest_certificate}
use Rattle.task_answers.specs.Kinds.{BeginsWithCuts}
use Rattle.plan_answers.specs.NearReply.{IsCertificateIn, IsCertificateRefusal, IsJudgement}
use Rattle.plan_answers.specs.TreeReply.{AreTreesIn, IsTreeRefusal, IsTreeJudgement}

pub data AnyListed : Type 0 where
  of_cuts : Certificate → AnyListed
  of_trees : ListedTrees → AnyListed

-- the certificate as the program keeps it
abbrev pub any_listed : AnyCertificate → AnyListed
any_listed (OfCuts c) = of_cuts c
any_listed (OfTrees c) = of_trees (listed_trees c)

-- the bytes of a file are not too many, and spell this certificate for the task; its kind is that which begins first
abbrev pub IsAnyIn : Problem → List ℕ → AnyListed → Type 0
IsAnyIn t bytes (of_cuts c) = BeginsWithCuts bytes × IsCertificateIn t bytes c
IsAnyIn t bytes (of_trees c) = (BeginsWithCuts bytes → ⊥) × AreTreesIn t bytes c

-- the bytes of a certificate's file are refused with this line
pub data IsAnyRefusal (t : Problem) (bytes : List ℕ) : List ℕ → Type 0 where
  -- they are too many
  too_long : longest_certificate < length bytes → IsAnyRefusal t bytes long_text
  -- one of cuts begins first, and is refused
  no_cuts : (line : List ℕ) → BeginsWithCuts bytes → IsCertificateRefusal t bytes line → IsAnyRefusal t bytes line
  -- none of cuts begins first, and they are refused as those of one of trees
  no_trees : (line : List ℕ) → (BeginsWithCuts bytes → ⊥) → IsTreeRefusal t bytes line → IsAnyRefusal t bytes line

-- the judgement of a certificate for a task, as that of its kind
abbrev pub IsAnyJudgement : Problem → AnyListed → Outcome → List ℕ → Type 0
IsAnyJudgement t (of_cuts c) outcome line = IsJudgement t c outcome line
IsAnyJudgement t (of_trees c) outcome line = IsTreeJudgement t c outcome line
