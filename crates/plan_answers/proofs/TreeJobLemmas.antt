-- Judgements of certificates of trees.
use Rattle.std.proofs.Common.{◌≡◌, ◌≢◌, ◌⊎◌, ⊎_elim, ℕ, List, Result, Err, sym, ◌∙◌}
use Rattle.std.proofs.lemmas.Bool.{false≢true}
use Rattle.std.specs.Prelude.{IsOk}
use Rattle.hold_limits.specs.Problem.{Problem}
use Rattle.tree_certificate.specs.Listed.{ListedTrees}
use Rattle.tree_checker.specs.GoodTrees.{IsGoodTrees}
use Rattle.tree_checker.specs.FirstReason.{IsRejected}
use Rattle.tree_checker.specs.declared.rejection.TreeRejection.{TreeRejection}
use Rattle.tree_checker.specs.declared.rejection.TreeRejection.TheVariants as wrong
use Rattle.task_answers.specs.declared.reply.Outcome.TheVariants.{Rejected}
use Rattle.plan_answers.specs.ReplyText.{IsTreeRejectionLine}
use Rattle.plan_answers.specs.TreeReply.{IsTreeJudgement}
use Rattle.plan_answers.specs.TreeReply.IsTreeJudgement.{rejected}

-- a refusal because memory ran out has no line
not_memory : (reason : TreeRejection) (line : List ℕ) → IsTreeRejectionLine reason line → reason ≡ wrong.NoMemory → ⊥
not_memory reason line is none = rw none at is

refused_for_memory : {X : Type 0} (result : Result X TreeRejection) (reason : TreeRejection) → result ≡ Err reason
    → IsOk result ⊎ (result ≡ Err wrong.NoMemory) → reason ≡ wrong.NoMemory
refused_for_memory result reason is outcome =
    ⊎_elim (λ ok. absurd (false≢true (rw is at ok))) (λ same. let e = sym is ∙ same in cc) outcome

-- a good certificate is refused only where memory ran out, so that one that is refused with a line is not good
pub rejected-judgement : {X : Type 0} (result : Result X TreeRejection) (t : Problem) (c : ListedTrees) (reason : TreeRejection) (line : List ℕ) → result ≡ Err reason
    → (IsGoodTrees t c → IsOk result ⊎ (result ≡ Err wrong.NoMemory)) → IsRejected t c reason → IsTreeRejectionLine reason line
    → IsTreeJudgement t c Rejected line
rejected-judgement result t c reason line refused accepted first is =
    rejected reason line (λ good. not_memory reason line is (refused_for_memory result reason refused (accepted good))) first is
