-- what an answer of the search by trees is about
use Rattle.std.specs.Prelude.{◌≡◌, ℕ}
use Rattle.hold_limits.specs.Problem.{Problem}
use Rattle.tree_certificate.specs.declared.parts.TreeCertificate.{TreeCertificate}
use Rattle.cert_checker.specs.Certified.{certified}
use Rattle.tree_checker.specs.Claims.{IsGoodFor}
use Rattle.tree_search.specs.declared.answer.TreeAnswer.{TreeAnswer}
use Rattle.tree_search.specs.declared.answer.TreeAnswer.TheVariants.{Best, NoneFits, Undecided}

-- An answer to a task after so many looks: its evidence is about that task, or it says that these looks do not decide it.
abbrev pub IsTreeAnswerTo : Problem → ℕ → TreeAnswer → Type 0
IsTreeAnswerTo t looks (Best proven) = proven.task ≡ t
IsTreeAnswerTo t looks (NoneFits no_plan) = no_plan.task ≡ t
IsTreeAnswerTo t looks (Undecided n) = n ≡ looks

-- The answer to a task to which a certificate leads: the certificate is its evidence, unless it is not good.
abbrev pub IsAnswerWith : Problem → TreeCertificate → ℕ → TreeAnswer → Type 0
IsAnswerWith t c looks (Best proven) = proven ≡ certified t c
IsAnswerWith t c looks (NoneFits no_plan) = no_plan ≡ certified t c
IsAnswerWith t c looks (Undecided n) = (n ≡ looks) × (IsGoodFor t c → ⊥)
