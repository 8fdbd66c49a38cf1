-- What a desk answers to the question for the best plan, and what follows from it.
use Rattle.std.proofs.Common.{◌≡◌, ◌≢◌, ℕ, ◌<◌, ◌≤◌, ◌^◌, List, [], ◌∷◌, ◌++◌, length, get_or, Option, Some, None, refl, sym, ap, subst, ◌∙◌, arith}
use Rattle.std.proofs.lemmas.List.Elements.{All-nil, All-cons}
use Rattle.std.specs.Prelude.{IfSome, codes}
use Rattle.std.specs.Option.{option_map}
use Rattle.mass_units.specs.Spelling.{number_text}
use Rattle.hold_limits.specs.Problem.{Problem}
use Rattle.hold_limits.specs.Placement.{IsBest, IsSound}
use Rattle.text_lines.specs.Lines.{line_of}
use Rattle.cert_checker.specs.Claims.{HasNoPlacement}
use Rattle.task_answers.specs.declared.reply.Outcome.{Outcome}
use Rattle.task_answers.specs.declared.reply.Outcome.TheVariants.{Done, Undecided}
use Rattle.task_answers.specs.ReplyText.{undecided_text}
use Rattle.task_answers.specs.Limits.{longest_answer}
use Rattle.task_answers.specs.TreeReply.{IsTreePlacing}
use Rattle.task_answers.specs.TreeReply.IsTreePlacing.{plan, nothing_fits, near_plan, nothing_near, undecided}
use Rattle.task_answers.specs.Found.{HasPath, IsBestAnswer}
use Rattle.task_answers.specs.Found.IsBestAnswer.{whole, short}
use Rattle.task_answers.proofs.ShortText.{IsShort, number-short, pair-short, text-short}

-- Paths -----------------------------------------------------------------------------------------

-- the path that was found is the best
pub found-best : (t : Problem) (outcome : Outcome) (path : Option (List ℕ)) → HasPath t outcome path → IfSome path (IsBest t)
found-best t outcome None has = tt
found-best t outcome (Some path) has = has.1

-- where none was found, the outcome is no plan
no_plan : (t : Problem) (outcome : Outcome) (path : Option (List ℕ)) → HasPath t outcome path → path ≡ None → outcome ≢ Done
no_plan t outcome None has none = has
no_plan t outcome (Some path) has none = absurd (cc none)

-- what a reference to an optional value points to
pub option-through : {A B C : Type 0} (f : A → B) (g : B → C) (r : Option A) (o : Option B) → option_map f r ≡ o → option_map (λ x. g (f x)) r ≡ option_map g o
option-through f g None o is = ap (option_map g) is
option-through f g (Some x) o is = ap (option_map g) is

pub sound-through : {A : Type 0} (t : Problem) (f : A → List ℕ) (r : Option A) (o : Option (List ℕ)) → option_map f r ≡ o → IfSome o (IsBest t)
    → IfSome r (λ x. IsSound t (f x))
sound-through t f None o is best = tt
sound-through t f (Some x) o is best = (subst (λ (p : Option (List ℕ)). IfSome p (IsBest t)) (sym is) best).admissible.sound

-- Outcomes --------------------------------------------------------------------------------------

undecided-told : (t : Problem) (looks : ℕ) (outcome : Outcome) (text : List ℕ) → IsTreePlacing t looks outcome text → outcome ≡ Undecided → text ≡ undecided_text looks
undecided-told t looks _ _ (plan path c best claim good back) is = absurd (cc is)
undecided-told t looks _ _ (nothing_fits c none claim good back) is = absurd (cc is)
undecided-told t looks _ _ (near_plan path c best claim evidence back) is = absurd (cc is)
undecided-told t looks _ _ (nothing_near c none claim evidence back) is = absurd (cc is)
undecided-told t looks _ _ (undecided more) is = refl

nothing-told : (t : Problem) (looks : ℕ) (outcome : Outcome) (text : List ℕ) → IsTreePlacing t looks outcome text → outcome ≢ Done → outcome ≢ Undecided → HasNoPlacement t
nothing-told t looks _ _ (plan path c best claim good back) no_plan decided = absurd (no_plan refl)
nothing-told t looks _ _ (nothing_fits c none claim good back) no_plan decided = none
nothing-told t looks _ _ (near_plan path c best claim evidence back) no_plan decided = absurd (no_plan refl)
nothing-told t looks _ _ (nothing_near c none claim evidence back) no_plan decided = none
nothing-told t looks _ _ (undecided more) no_plan decided = absurd (decided refl)

undecided-length : (looks : ℕ) → looks < 2 ^ 63 → length (undecided_text looks) ≤ 245
undecided-length looks small =
    let line = line_of (codes "UNDECIDED" ∷ number_text looks ∷ []) in
    let number = number-short looks small in
    text-short (line ∷ []) (All-cons IsShort line [] (pair-short (codes "UNDECIDED") (number_text looks) (omega arith) (omega (arith, number))) (All-nil IsShort))

-- a text that is too long does not say that the looks are spent
pub long-decided : (t : Problem) (looks : ℕ) (outcome : Outcome) (text : List ℕ) → looks < 2 ^ 63 → IsTreePlacing t looks outcome text → longest_answer < length text
    → outcome ≢ Undecided
long-decided t looks outcome text small placing long is =
    absurd (omega (arith, long, undecided-length looks small, ap length (undecided-told t looks outcome text placing is)))

-- Laws ------------------------------------------------------------------------------------------

answered-best : (t : Problem) (looks : ℕ) (path : Option (List ℕ)) (text : List ℕ) → IsBestAnswer t looks path text → IfSome path (IsBest t)
answered-best t looks _ _ (whole path outcome text found few) = found-best t outcome path found.has_path
answered-best t looks _ _ (short path outcome text found long decided) = found-best t outcome path found.has_path

pub answered-plan : (t : Problem) (looks : ℕ) (path text : List ℕ) → IsBestAnswer t looks (Some path) text → IsBest t path
answered-plan t looks path text is = answered-best t looks (Some path) text is

-- the line of looks that are spent begins with another letter
not-undecided : (looks : ℕ) (text rest : List ℕ) → text ≡ undecided_text looks → text ≡ codes "NONE" ++ rest → ⊥
not-undecided looks text rest told begins =
    let is : 85 ≡ 78 = ap (λ l. get_or l 0 0) (sym told ∙ begins) in
    absurd (omega (arith, is))

without : (t : Problem) (looks : ℕ) (path : Option (List ℕ)) (text rest : List ℕ) → IsBestAnswer t looks path text → path ≡ None → text ≡ codes "NONE" ++ rest
    → HasNoPlacement t
without t looks _ _ rest (whole path outcome text found few) none begins =
    nothing-told t looks outcome text found.placing (no_plan t outcome path found.has_path none)
    (λ is. not-undecided looks text rest (undecided-told t looks outcome text found.placing is) begins)
without t looks _ _ rest (short path outcome text found long decided) none begins =
    nothing-told t looks outcome text found.placing (no_plan t outcome path found.has_path none) decided

pub answered-none : (t : Problem) (looks : ℕ) (rest : List ℕ) → IsBestAnswer t looks None (codes "NONE" ++ rest) → HasNoPlacement t
answered-none t looks rest is = without t looks None (codes "NONE" ++ rest) rest is refl refl
