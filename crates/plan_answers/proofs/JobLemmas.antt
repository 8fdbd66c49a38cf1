-- What good certificates claim, and summaries.
use Rattle.std.proofs.Common.{◌≡◌, ℕ, List, ◌++◌, Option, Some, None, Result, Ok, Err, refl, sym, ap, subst, ◌∙◌}
use Rattle.std.specs.Result.{IfOk}
use Rattle.text_lines.specs.Lines.{text_of}
use Rattle.text_lines.proofs.SectionLemmas.{text_of-append}
use Rattle.std.specs.Option.{IsSomeAnd}
use Rattle.hold_limits.specs.Problem.{Problem}
use Rattle.hold_limits.specs.Placement.{IsBest}
use Rattle.hold_limits.specs.Faults.{IsLawful}
use Rattle.hold_reach.proofs.ViableLemmas.{band-in_order}
use Rattle.certificate.specs.Evidence.{claimed}
use Rattle.certificate.specs.Good.{AreAtMost, IsGood}
use Rattle.certificate.specs.declared.parts.Certificate.{Certificate}
use Rattle.cert_checker.specs.Claims.{HasNoPlacement, IsGoodFor}
use Rattle.cert_checker.proofs.GoodLemmas.{good-best, good-none}
use Rattle.cert_checker.specs.Certified.{Certified}
use Rattle.base_words.specs.declared.NoMemory.{NoMemory}
use Rattle.std.specs.declared.vec.Vec.{Vec}
use Rattle.std.specs.declared.alloc.Global.{Global}
use Rattle.placer.specs.Near.{AreMoreThan, IsNear, IsNearCertificate}
use Rattle.placer.specs.declared.answer.Answer.{Answer}
use Rattle.placer.specs.declared.answer.Answer.TheVariants.{Best, NoneFits, Budget}
use Rattle.placer.specs.Answers.{IsAnswerTo}
use Rattle.plan_answers.specs.Outcomes.{summary_outcome, IsSummaryText}
use Rattle.generated_load.specs.Load.{generated_problem}
use Rattle.task_answers.specs.declared.reply.Outcome.TheVariants.{Done, OverBudget}
use Rattle.task_answers.specs.Limits.{usual_budget}
use Rattle.plan_answers.specs.ReplyText.{plan_summary, none_summary, budget_summary}
use Rattle.plan_answers.specs.Claims.{IsTrueOf}
use Rattle.task_answers.proofs.JobLemmas.{path_of, none_claimed, IsGoodAnswer}
use Rattle.task_answers.specs.NearReply.{IsEvidence}
use Rattle.plan_answers.specs.SummaryReply.{IsSummary}
use Rattle.plan_answers.specs.SummaryReply.IsSummary.{plan_summed, none_summed, budget_summed}

-- a claim is true where a path that is claimed is the best, and where none is admissible if none is claimed
pub true-claim : (t : Problem) (claim : Option (List ℕ)) → ((path : List ℕ) → claim ≡ Some path → IsBest t path) → (claim ≡ None → HasNoPlacement t) → IsTrueOf t claim
true-claim t None best none = none refl
true-claim t (Some path) best none = best path refl

-- what a good certificate claims is true
pub good-true : (t : Problem) (c : Certificate) → IsLawful t → IsGoodFor t c → IsTrueOf t (claimed c.claim)
good-true t c lawful good =
    true-claim t (claimed c.claim)
    (λ path is. good-best t path c.cuts c.expanded (band-in_order t lawful) (subst (λ claim. IsGood t claim c.cuts c.expanded) is good))
    (λ is. good-none t c.cuts c.expanded (subst (λ claim. IsGood t claim c.cuts c.expanded) is good))

-- the evidence for the placement of a generated load
summed-evidence : (number : ℕ) (t : Problem) (c : Certificate) → t ≡ generated_problem number → IsNearCertificate t c → IsGoodFor t c → AreAtMost (IsNear t) usual_budget
    → IsEvidence (generated_problem number) usual_budget c
summed-evidence number t c made near good enough =
    subst (λ (p : Problem). IsEvidence p usual_budget c) made (record { near = near; good = good; enough = enough })

plan-summary : (number : ℕ) (t : Problem) (c : Certificate) (text : List ℕ) → t ≡ generated_problem number → IsSomeAnd (claimed c.claim) (IsBest t) → IsNearCertificate t c
    → IsGoodFor t c → AreAtMost (IsNear t) usual_budget → ((path : List ℕ) → claimed c.claim ≡ Some path → text ≡ plan_summary number path c) → IsSummary number Done text
plan-summary number t c text made best near good enough is =
    let path = path_of (claimed c.claim) (IsBest t) best in
    subst (IsSummary number Done) (sym (is path.0 path.1))
    (plan_summed path.0 c (subst (λ (p : Problem). IsBest p path.0) made path.2) path.1
    (summed-evidence number t c made near good enough))

none-summary : (number : ℕ) (t : Problem) (c : Certificate) (text : List ℕ) → t ≡ generated_problem number → HasNoPlacement t → IsNearCertificate t c
    → IsGoodFor t c → AreAtMost (IsNear t) usual_budget → text ≡ none_summary number c → IsSummary number Done text
none-summary number t c text made none near good enough is =
    subst (IsSummary number Done) (sym is)
    (none_summed c (subst HasNoPlacement made none) (none_claimed t (claimed c.claim) none near.claim)
    (summed-evidence number t c made near good enough))

budget-summary : (number : ℕ) (t : Problem) (spent : ℕ) (text : List ℕ) → t ≡ generated_problem number → spent ≡ usual_budget → AreMoreThan (IsNear t) spent
    → text ≡ budget_summary number → IsSummary number OverBudget text
budget-summary number t spent text made same more is =
    subst (IsSummary number OverBudget) (sym is)
    (budget_summed (subst (λ (p : Problem). AreMoreThan (IsNear p) usual_budget) made (subst (AreMoreThan (IsNear t)) same more)))

pub is-summary : (number : ℕ) (t : Problem) (answer : Answer) (text : List ℕ) → t ≡ generated_problem number → IsAnswerTo t usual_budget answer → IsGoodAnswer answer
    → IsSummaryText number answer text → IsSummary number (summary_outcome answer) text
is-summary number t (Best proven) text made to good is =
    plan-summary number t proven.certificate text made to.path to.near (subst (λ (p : Problem). IsGoodFor p proven.certificate) to.best good) to.enough is
is-summary number t (NoneFits no_plan) text made to good is =
    none-summary number t no_plan.certificate text made to.nothing to.near (subst (λ (p : Problem). IsGoodFor p no_plan.certificate) to.none good) to.enough is
is-summary number t (Budget n) text made to good is = budget-summary number t n text made to.spent to.over is

-- Texts of summaries ----------------------------------------------------------------------------

-- a text with some lines more
pub with_lines : (a b : List (List ℕ)) (old new : List ℕ) → old ≡ text_of a → new ≡ old ++ text_of b → new ≡ text_of (a ++ b)
with_lines a b old new had is = is ∙ ap (λ t. t ++ text_of b) had ∙ sym (text_of-append a b)

pub some_same : (a b : List ℕ) → Some a ≡ Some b → a ≡ b
some_same a b is = cc

-- a summary that was made for each claimed path is one for the answer
pub plan-text : (number : ℕ) (proven : Certified) (result : Result (Vec ℕ Global) NoMemory)
    → ((path : List ℕ) → claimed proven.certificate.claim ≡ Some path → IfOk result (λ text. text.items ≡ plan_summary number path proven.certificate))
    → IfOk result (λ text. IsSummaryText number (Best proven) text.items)
plan-text number proven (Ok text) is = is
plan-text number proven (Err e) is = tt
