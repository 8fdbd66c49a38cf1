-- Placements by trees.
use Rattle.std.proofs.Common.{◌≡◌, ◌≢◌, ℕ, ◌≤◌, List, [], ◌∷◌, ◌++◌, length, Option, Some, None, Result, Ok, Err, refl, sym, subst, arith}
use Rattle.std.proofs.lemmas.Bool.{false≢true}
use Rattle.std.specs.Prelude.{IfOk, IfSome, IsNone, codes}
use Rattle.std.specs.Option.{option_map}
use Rattle.arrayvec.specs.ArrayVec.{ArrayVec}
use Rattle.base_words.specs.declared.NoMemory.{NoMemory}
use Rattle.hold_limits.specs.Problem.{Problem}
use Rattle.hold_limits.specs.Placement.{IsBest}
use Rattle.hold_limits.specs.Faults.{IsLawful}
use Rattle.plan_text.specs.PlanText.{one_line, plan_text}
use Rattle.certificate.specs.Evidence.{claimed}
use Rattle.certificate.specs.CertificateText.{IsSpelledClaim}
use Rattle.cert_checker.specs.Claims.{HasNoPlacement}
use Rattle.cert_checker.specs.Certified.{CertifiedBy}
use Rattle.tree_certificate.specs.declared.parts.TreeCertificate.{TreeCertificate}
use Rattle.tree_certificate.specs.TreeText.{tree_text, IsSpelled}
use Rattle.tree_certificate.specs.Listed.{ListedTrees}
use Rattle.tree_checker.specs.GoodTrees.{IsGoodTrees}
use Rattle.tree_search.specs.TreeAnswers.{IsTreeAnswerTo}
use Rattle.tree_search.specs.declared.answer.TreeAnswer.{TreeAnswer}
use Rattle.tree_search.specs.declared.answer.TreeAnswer.TheVariants as answer
use Rattle.placer.specs.AnswerText.{claim_text}
use Rattle.placer.specs.Near.{AreMoreThan, IsNear}
use Rattle.task_answers.specs.declared.reply.Outcome.{Outcome}
use Rattle.task_answers.specs.declared.reply.Outcome.TheVariants.{Done, NothingFits, OverBudget, Undecided}
use Rattle.task_answers.specs.declared.reply.TreePlacing.{TreePlacing}
use Rattle.task_answers.specs.ReplyText.{tree_evidence_text, undecided_text}
use Rattle.task_answers.specs.Limits.{longest_certificate}
use Rattle.task_answers.specs.Names.{IsNamedTask}
use Rattle.task_answers.specs.NearReply.{IsPlacing}
use Rattle.task_answers.specs.NearReply.IsPlacing.{plan as cuts_plan, nothing_fits as cuts_nothing_fits, over_budget}
use Rattle.task_answers.specs.TreeReply.{near_budget, AreReadBack, IsTreePlacing}
use Rattle.task_answers.specs.TreeReply.IsTreePlacing.{plan, nothing_fits, near_plan, nothing_near, undecided}
use Rattle.task_answers.specs.Found.{HasPath, IsFound, IsTreePlacingOf}
use Rattle.task_answers.proofs.ReadBack.{claim-spelled, trees-read_back}

-- Placements by trees ---------------------------------------------------------------------------

-- a certificate that is good for the task is told with this text, which is short enough for a file
pub record IsToldBy (t : Problem) (c : ListedTrees) (text : List ℕ) : Type 0 where
  pub lawful : IsLawful t
  pub named : IsNamedTask t
  pub good : IsGoodTrees t c
  pub spelled : IsSpelledClaim t.hold.positions c.claim → IsSpelled t.hold.positions c
  pub is : text ≡ tree_evidence_text t c

read_back : (t : Problem) (c : ListedTrees) (text : List ℕ) → IsToldBy t c text → length text ≤ longest_certificate → AreReadBack t c
read_back t c text told short =
    trees-read_back t c told.named told.good (told.spelled (claim-spelled t c.claim told.lawful told.good.admissible))
    (subst (λ (x : List ℕ). length x ≤ longest_certificate) told.is short)

-- the path as a list
abbrev pub items_of : Option (ArrayVec ℕ) → Option (List ℕ)
items_of path = option_map (λ (p : ArrayVec ℕ). p.items) path

-- what is found, with a text that fits a file
abbrev pub IsFitting : Outcome → List ℕ → Option (ArrayVec ℕ) → TreePlacing → Type 0
IsFitting outcome text path found =
    (found.reply.outcome ≡ outcome) × (found.reply.text.items ≡ text) × (found.path ≡ path) × (length text ≤ longest_certificate)

fitting : (t : Problem) (outcome : Outcome) (text : List ℕ) (path : Option (ArrayVec ℕ)) (found : Option TreePlacing) → IfSome found (IsFitting outcome text path)
    → HasPath t outcome (items_of path) → (length text ≤ longest_certificate → (looks : ℕ) → IsTreePlacing t looks outcome text)
    → IfSome found (λ it. (looks : ℕ) → IsFound t looks it)
fitting t outcome text path None fits has placed = tt
fitting t outcome text path (Some it) fits has placed = λ looks.
    subst (λ (o : Outcome). IsTreePlacingOf t looks (items_of it.path) o it.reply.text.items) (sym fits.0)
    (subst (λ (x : List ℕ). IsTreePlacingOf t looks (items_of it.path) outcome x) (sym fits.1)
    (subst (λ (p : Option (ArrayVec ℕ)). IsTreePlacingOf t looks (items_of p) outcome text) (sym fits.2)
    (record { placing = placed fits.3 looks; has_path = has })))

pub plan-placing : (t : Problem) (c : ListedTrees) (path text : List ℕ) (copy : ArrayVec ℕ) (found : Option TreePlacing) → copy.items ≡ path → claimed c.claim ≡ Some path
    → IsBest t path → IsToldBy t c text → IfSome found (IsFitting Done text (Some copy)) → IfSome found (λ it. (looks : ℕ) → IsFound t looks it)
plan-placing t c path text copy found same claim best told fits =
    fitting t Done text (Some copy) found fits (refl, subst (IsBest t) (sym same) best)
    (λ short looks. subst (IsTreePlacing t looks Done) (sym told.is) (plan path c best claim told.good (read_back t c text told short)))

none_claimed : (claim : Option (List ℕ)) → IsNone claim → claim ≡ None
none_claimed None none = refl
none_claimed (Some path) none = absurd (false≢true (sym none))

pub none-placing : (t : Problem) (c : ListedTrees) (text : List ℕ) (found : Option TreePlacing) → IsNone (claimed c.claim) → HasNoPlacement t → IsToldBy t c text
    → IfSome found (IsFitting NothingFits text None) → IfSome found (λ it. (looks : ℕ) → IsFound t looks it)
none-placing t c text found none nothing told fits =
    fitting t NothingFits text None found fits (λ same. cc same)
    (λ short looks. subst (IsTreePlacing t looks NothingFits) (sym told.is) (nothing_fits c nothing (none_claimed (claimed c.claim) none) told.good (read_back t c text told short)))

-- what is printed of a claimed path, and where none is claimed
pub plan-told_text : (t : Problem) (c : ListedTrees) (path text : List ℕ) → claimed c.claim ≡ Some path → text ≡ plan_text t path ++ tree_text t.hold.positions c
    → text ≡ tree_evidence_text t c
plan-told_text t c path text claim is = subst (λ o. text ≡ claim_text t o ++ tree_text t.hold.positions c) (sym claim) is

pub none-told_text : (t : Problem) (c : ListedTrees) (text : List ℕ) → IsNone (claimed c.claim) → text ≡ one_line (codes "NONE" ∷ []) ++ tree_text t.hold.positions c
    → text ≡ tree_evidence_text t c
none-told_text t c text none is = subst (λ o. text ≡ claim_text t o ++ tree_text t.hold.positions c) (sym (none_claimed (claimed c.claim) none)) is

-- what is found for each task and number of looks that have this answer
abbrev pub Finds : TreeAnswer → TreePlacing → Type 0
Finds a it = (t : Problem) (looks : ℕ) → IsTreeAnswerTo t looks a → IsFound t looks it

moved : (u : Problem) (found : Option TreePlacing) (a : TreeAnswer) → ((t : Problem) (looks : ℕ) → IsTreeAnswerTo t looks a → u ≡ t)
    → IfSome found (λ it. (looks : ℕ) → IsFound u looks it) → IfSome found (Finds a)
moved u None a same is = tt
moved u (Some it) a same is = λ t looks to. subst (λ (p : Problem). IsFound p looks it) (same t looks to) (is looks)

pub best-found : (proven : CertifiedBy TreeCertificate) (result : Result (Option TreePlacing) NoMemory)
    → IfOk result (λ found. IfSome found (λ it. (looks : ℕ) → IsFound proven.task looks it)) → IfOk result (λ found. IfSome found (Finds (answer.Best proven)))
best-found proven (Ok found) is = moved proven.task found (answer.Best proven) (λ t looks to. to) is
best-found proven (Err e) is = tt

pub none-found : (no_plan : CertifiedBy TreeCertificate) (result : Result (Option TreePlacing) NoMemory)
    → IfOk result (λ found. IfSome found (λ it. (looks : ℕ) → IsFound no_plan.task looks it)) → IfOk result (λ found. IfSome found (Finds (answer.NoneFits no_plan)))
none-found no_plan (Ok found) is = moved no_plan.task found (answer.NoneFits no_plan) (λ t looks to. to) is
none-found no_plan (Err e) is = tt

-- Placements without trees ----------------------------------------------------------------------

pub placing-decided : (t : Problem) (looks : ℕ) (outcome : Outcome) (text : List ℕ) → IsPlacing t (near_budget looks) outcome text → outcome ≢ OverBudget
    → IsTreePlacing t looks outcome text
placing-decided t looks _ _ (cuts_plan path c best claim evidence back) decided = near_plan path c best claim evidence (back (omega arith))
placing-decided t looks _ _ (cuts_nothing_fits c none claim evidence back) decided = nothing_near c none claim evidence (back (omega arith))
placing-decided t looks _ _ (over_budget more) decided = absurd (decided refl)

over : (t : Problem) (budget : ℕ) (outcome : Outcome) (text : List ℕ) → IsPlacing t budget outcome text → outcome ≡ OverBudget → AreMoreThan (IsNear t) budget
over t budget _ _ (cuts_plan path c best claim evidence back) is = absurd (cc is)
over t budget _ _ (cuts_nothing_fits c none claim evidence back) is = absurd (cc is)
over t budget _ _ (over_budget more) is = more

undecided-path : (t : Problem) (looks : ℕ) (it : TreePlacing) → IsTreePlacing t looks Undecided (undecided_text looks) → it.reply.outcome ≡ Undecided
    → it.reply.text.items ≡ undecided_text looks → it.path ≡ None → IsFound t looks it
undecided-path t looks it placing outcome text none =
    subst (λ (o : Outcome). IsTreePlacingOf t looks (items_of it.path) o it.reply.text.items) (sym outcome)
    (subst (λ (x : List ℕ). IsTreePlacingOf t looks (items_of it.path) Undecided x) (sym text)
    (subst (λ (p : Option (ArrayVec ℕ)). IsTreePlacingOf t looks (items_of p) Undecided (undecided_text looks)) (sym none)
    (record { placing = placing; has_path = λ same. cc same })))

pub undecided-found : (t : Problem) (looks : ℕ) (outcome : Outcome) (text : List ℕ) (result : Result TreePlacing NoMemory) → IsPlacing t (near_budget looks) outcome text
    → outcome ≡ OverBudget → IfOk result (λ it. it.reply.outcome ≡ Undecided) → IfOk result (λ it. it.reply.text.items ≡ undecided_text looks)
    → IfOk result (λ it. it.path ≡ None) → IfOk result (IsFound t looks)
undecided-found t looks outcome text (Ok it) placing is same line none =
    undecided-path t looks it (undecided (over t (near_budget looks) outcome text placing is)) same line none
undecided-found t looks outcome text (Err e) placing is same line none = tt
