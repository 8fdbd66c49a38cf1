-- What is searched for by trees, and printed with a certificate of trees.
use Rattle.std.specs.Prelude.{◌≡◌, ℕ, ◌≤◌, min, List, length, Some, None}
use Rattle.hold_limits.specs.Problem.{Problem}
use Rattle.hold_limits.specs.Placement.{IsBest}
use Rattle.certificate.specs.Evidence.{claimed}
use Rattle.certificate.specs.declared.parts.Certificate.{Certificate}
use Rattle.cert_checker.specs.Claims.{HasNoPlacement}
use Rattle.tree_certificate.specs.Listed.{ListedTrees}
use Rattle.tree_certificate.specs.TreeText.{Spells}
use Rattle.tree_checker.specs.GoodTrees.{IsGoodTrees}
use Rattle.placer.specs.Near.{AreMoreThan, IsNear}
use Rattle.placer.specs.AnswerText.{evidence_text}
use Rattle.task_answers.specs.declared.reply.Outcome.{Outcome}
use Rattle.task_answers.specs.declared.reply.Outcome.TheVariants.{Done, NothingFits, Undecided}
use Rattle.task_answers.specs.Limits.{longest_certificate, greatest_budget}
use Rattle.task_answers.specs.Kinds.{BeginsWithCuts}
use Rattle.task_answers.specs.NearReply.{IsEvidence, IsReadBack}
use Rattle.task_answers.specs.ReplyText.{tree_evidence_text, undecided_text}

-- the bytes of a file are not too many, and spell this certificate of trees for the task
pub record AreTreesIn (t : Problem) (bytes : List ℕ) (c : ListedTrees) : Type 0 where
  pub short : length bytes ≤ longest_certificate
  pub spelled : Spells t.hold.positions bytes c

-- what is printed with the certificate fits a file, is its text, and begins with none of cuts
pub record AreReadBack (t : Problem) (c : ListedTrees) : Type 0 where
  pub spelled : AreTreesIn t (tree_evidence_text t c) c
  pub kind : BeginsWithCuts (tree_evidence_text t c) → ⊥

-- the budget of the best-first search that is asked where so many looks at trees do not decide a task
abbrev pub near_budget : ℕ → ℕ
near_budget looks = min looks greatest_budget

-- the placement of a task by a search with so many looks: an outcome and its text
pub data IsTreePlacing (t : Problem) (looks : ℕ) : Outcome → List ℕ → Type 0 where
  -- the best plan, with a good certificate for it
  plan : (path : List ℕ) (c : ListedTrees) → IsBest t path → claimed c.claim ≡ Some path → IsGoodTrees t c → AreReadBack t c
      → IsTreePlacing t looks Done (tree_evidence_text t c)
  -- nothing fits, with a good certificate for that
  nothing_fits : (c : ListedTrees) → HasNoPlacement t → claimed c.claim ≡ None → IsGoodTrees t c → AreReadBack t c
      → IsTreePlacing t looks NothingFits (tree_evidence_text t c)
  -- the trees do not decide it, and the best-first search does: the best plan, with the near certificate
  near_plan : (path : List ℕ) (c : Certificate) → IsBest t path → claimed c.claim ≡ Some path → IsEvidence t (near_budget looks) c
      → IsReadBack t c → IsTreePlacing t looks Done (evidence_text t c)
  -- or nothing fits, with the near certificate
  nothing_near : (c : Certificate) → HasNoPlacement t → claimed c.claim ≡ None → IsEvidence t (near_budget looks) c
      → IsReadBack t c → IsTreePlacing t looks NothingFits (evidence_text t c)
  -- neither decides it, since more prefixes are near than the budget
  undecided : AreMoreThan (IsNear t) (near_budget looks) → IsTreePlacing t looks Undecided (undecided_text looks)
