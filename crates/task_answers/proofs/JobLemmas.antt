-- Placements by the best-first search.
use Rattle.std.proofs.Common.{◌≡◌, ℕ, List, Option, Some, None, refl, sym, ap, subst, ◌∙◌}
use Rattle.std.specs.Option.{IfSome, IsSomeAnd, MatchOption}
use Rattle.hold_limits.specs.Problem.{Problem}
use Rattle.hold_limits.specs.Placement.{IsBest}
use Rattle.hold_limits.specs.Faults.{IsLawful}
use Rattle.certificate.specs.Evidence.{claimed}
use Rattle.certificate.specs.Good.{AreAtMost}
use Rattle.certificate.specs.declared.parts.Certificate.{Certificate}
use Rattle.cert_checker.specs.Claims.{HasNoPlacement, IsGoodFor}
use Rattle.cert_checker.specs.Certified.{Certified}
use Rattle.placer.specs.Near.{AreMoreThan, IsNear, IsNearCertificate}
use Rattle.placer.specs.declared.answer.Answer.{Answer}
use Rattle.placer.specs.declared.answer.Answer.TheVariants.{Best, NoneFits, Budget}
use Rattle.placer.specs.Answers.{IfCertified, IsAnswerTo}
use Rattle.placer.specs.AnswerText.{evidence_text, budget_text, answer_text}
use Rattle.task_answers.specs.Outcomes.{outcome_of}
use Rattle.task_answers.specs.declared.reply.Outcome.TheVariants.{Done, NothingFits, OverBudget}
use Rattle.task_answers.specs.Names.{IsNamedTask}
use Rattle.task_answers.proofs.ReadBack.{cuts-read_back}
use Rattle.task_answers.specs.Found.{HasPath}
use Rattle.task_answers.specs.NearReply.{IsPlacing}
use Rattle.task_answers.specs.NearReply.IsPlacing.{plan, nothing_fits, over_budget}

-- a path that is claimed, of which P holds
pub path_of : (claim : Option (List ℕ)) (P : List ℕ → Type 0) → IsSomeAnd claim P → (path : List ℕ) × (claim ≡ Some path) × P path
path_of None P is = absurd is
path_of (Some path) P is = (path, refl, is)

-- where no path is admissible, none is claimed as the best
pub none_claimed : (t : Problem) (claim : Option (List ℕ)) → HasNoPlacement t → MatchOption claim (HasNoPlacement t) (IsBest t) → claim ≡ None
none_claimed t None none is = refl
none_claimed t (Some path) none is = absurd (none path is.admissible)

claimed_best : (t : Problem) (claim : Option (List ℕ)) → IsSomeAnd claim (IsBest t) → IfSome claim (IsBest t)
claimed_best t None is = tt
claimed_best t (Some path) is = is

plan-placing : (t : Problem) (budget : ℕ) (c : Certificate) (text : List ℕ) → IsLawful t → IsNamedTask t → IsSomeAnd (claimed c.claim) (IsBest t) → IsNearCertificate t c
    → IsGoodFor t c → AreAtMost (IsNear t) budget → text ≡ evidence_text t c → IsPlacing t budget Done text
plan-placing t budget c text lawful named best near good enough is =
    let path = path_of (claimed c.claim) (IsBest t) best in
    subst (IsPlacing t budget Done) (sym is)
    (plan path.0 c path.2 path.1 (record { near = near; good = good; enough = enough }) (cuts-read_back t budget c lawful named near good enough))

none-placing : (t : Problem) (budget : ℕ) (c : Certificate) (text : List ℕ) → IsLawful t → IsNamedTask t → HasNoPlacement t → IsNearCertificate t c → IsGoodFor t c
    → AreAtMost (IsNear t) budget → text ≡ evidence_text t c → IsPlacing t budget NothingFits text
none-placing t budget c text lawful named none near good enough is =
    subst (IsPlacing t budget NothingFits) (sym is)
    (nothing_fits c none (none_claimed t (claimed c.claim) none near.claim) (record { near = near; good = good; enough = enough })
    (cuts-read_back t budget c lawful named near good enough))

budget-placing : (t : Problem) (budget spent : ℕ) (text : List ℕ) → spent ≡ budget → AreMoreThan (IsNear t) spent → text ≡ budget_text spent
    → IsPlacing t budget OverBudget text
budget-placing t budget spent text same more is =
    subst (IsPlacing t budget OverBudget) (sym (is ∙ ap budget_text same)) (over_budget (subst (AreMoreThan (IsNear t)) same more))

-- the certificate of an answer is good for its own task
abbrev pub IsGoodAnswer : Answer → Type 0
IsGoodAnswer answer = IfCertified answer (λ it. IsGoodFor it.task it.certificate)

pub is-placing : (t : Problem) (budget : ℕ) (answer : Answer) (text : List ℕ) → IsLawful t → IsNamedTask t → IsAnswerTo t budget answer → IsGoodAnswer answer
    → text ≡ answer_text t answer → IsPlacing t budget (outcome_of answer) text
is-placing t budget (Best proven) text lawful named to good is =
    plan-placing t budget proven.certificate text lawful named to.path to.near (subst (λ (p : Problem). IsGoodFor p proven.certificate) to.best good) to.enough is
is-placing t budget (NoneFits no_plan) text lawful named to good is =
    none-placing t budget no_plan.certificate text lawful named to.nothing to.near (subst (λ (p : Problem). IsGoodFor p no_plan.certificate) to.none good) to.enough is
is-placing t budget (Budget n) text lawful named to good is = budget-placing t budget n text to.spent to.over is

-- the path that the evidence of an answer claims
pub best-path : (t : Problem) (budget : ℕ) (proven : Certified) (path copy : List ℕ) → copy ≡ path → claimed proven.certificate.claim ≡ Some path
    → IsAnswerTo t budget (Best proven) → HasPath t Done (Some copy)
best-path t budget proven path copy same claim to =
    let best : IfSome (claimed proven.certificate.claim) (IsBest t) = claimed_best t (claimed proven.certificate.claim) to.path in
    (refl, subst (IsBest t) (sym same) (subst (λ claim. IfSome claim (IsBest t)) claim best))
