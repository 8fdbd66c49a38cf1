-- what the steps of the reader make of a text
use Rattle.std.proofs.Common.{◌≡◌, ⊎_elim, ◌⊎◌, inl, inr, ℕ, ◌+◌, ◌≤◌, ◌<◌, ◌↔◌, ◌++◌, ◌∷◌, List, [], length, refl, sym, ◌∙◌, ap, arith, Option, Some, None, lit≤}
use Rattle.std.specs.Prelude.{option_to_list, IsSome, is_some, Result, Ok, Err, IfOk, IfErr}
use Rattle.std.proofs.lemmas.Bool.{true≢false}
use Rattle.std.proofs.lemmas.List.{append_assoc, length-append}
use Rattle.std.proofs.lemmas.List.Elements.{All-nil, All-cons}
use Rattle.text_lines.specs.Lines.{IsStopped}
use Rattle.text_lines.specs.Sections.{IsOfKind}
use Rattle.text_lines.specs.declared.lines.Lines.{Lines as Point}
use Rattle.text_lines.specs.declared.fault.LineFault.{LineFault}
use Rattle.text_lines.specs.declared.fault.LineFault.TheVariants.{NoMemory}
use Rattle.text_lines.proofs.PartSteps.{PartBetween}
use Rattle.text_lines.proofs.Rests.{Rest, Leads, then}
use Rattle.text_lines.proofs.RunsOfLines.{past_run}
use Rattle.trim.specs.declared.figures.Figures.{Figures}
use Rattle.flight_state.specs.declared.change.Lmc.{Lmc}
use Rattle.flight_state.specs.declared.state.Stage.{Stage}
use Rattle.flight_state.specs.declared.state.Stage.TheVariants.{Working, Planned, Released}
use Rattle.flight_row.specs.declared.row.Version.{Version}
use Rattle.flight_row.specs.declared.row.Version.TheVariants.{Two}
use Rattle.flight_row.specs.declared.reader.Head.{Head}
use Rattle.flight_row.specs.RowText.{releases_line, plan_line, change_line}
use Rattle.flight_row.specs.Spelled.{AreToldReleases, IsSpelledPlan, IsSpelledChange, AreSpelledChanges, AreSpelledFigures}
use Rattle.flight_row.specs.Reading.{Said, HasRead, IsSpelledHead, SaysReleases, IsPlanFor, NeedsPlan, most_plans, row_with}
use Rattle.flight_row.proofs.RowParts.{from_plan, from_end, starts_with_plan, starts_with_changes, row_right, has_figures}

abbrev Lines : Type 0
Lines = List (List ℕ)

-- Steps -------------------------------------------------------------------------------------------

pub has_read : {from to : Rest Said} {here there : Point} → Leads from here to there → HasRead from.Is to.Is from.lines to.lines here.rest.now there.rest.now here.number there.number
has_read leads = record { fails = leads.fails; read = leads.read }

-- The releases ------------------------------------------------------------------------------------

pub with_cause : {P Q Cause : Type 0} → Cause → P ⊎ Q → P ⊎ (Cause × Q)
with_cause {P} {Q} cause h = ⊎_elim (λ (p : P). inl p) (λ (q : Q). inr (cause, q)) h

abbrev IsNot : {X : Type 0} → (X → List ℕ) → (X → Type 0) → Point → LineFault → Type 0
IsNot line P here = IsStopped here.rest.now here.number (IsOfKind line P)

pub releases_told : (stage : Stage) (here there : Point) (r : Result ℕ LineFault) → IfOk r (λ releases. AreToldReleases stage releases × (here.rest.now ≡ releases_line releases ++ 10 ∷ there.rest.now)) → IfOk r (λ releases. there.number ≡ here.number + 1)
    → IfErr r (λ fault. (fault ≡ NoMemory) ⊎ IsNot releases_line (AreToldReleases stage) here fault)
    → IfOk r (SaysReleases Two stage here.rest.now there.rest.now here.number there.number) × IfErr r (λ fault. (fault ≡ NoMemory) ⊎ ((Two ≡ Two) × IsNot releases_line (AreToldReleases stage) here fault))
releases_told stage here there (Ok releases) read counted refused = (record { right = read.0; read = read.1 ∙ sym (append_assoc (releases_line releases) (10 ∷ []) there.rest.now); counted = counted }, tt)
releases_told stage here there (Err fault) read counted refused = (tt, with_cause refl refused)

-- The plan ----------------------------------------------------------------------------------------

abbrev Plans : Stage → Point → Point → List Lines → Type 0
Plans stage = PartBetween plan_line IsSpelledPlan (λ (plans : List Lines). length plans ≤ most_plans stage)

pub no_plan_read : (here : Point) → Plans Working here here []
no_plan_read here = record { right = All-nil IsSpelledPlan; allowed = lit≤ tt; read = refl; counted = omega arith; stops = λ x rest right avoids few e. absurd (omega (arith, few)) }

pub plan_read : (stage : Stage) → NeedsPlan stage → (here there : Point) (names : Lines) → IsSpelledPlan names × (here.rest.now ≡ plan_line names ++ 10 ∷ there.rest.now) → there.number ≡ here.number + 1 → Plans stage here there (names ∷ [])
plan_read stage needed here there names read counted =
    let one : most_plans stage ≡ 1 = ⊎_elim (λ (e : stage ≡ Planned). ap most_plans e) (λ (e : stage ≡ Released). ap most_plans e) needed in
    record {
      right = All-cons IsSpelledPlan names [] read.0 (All-nil IsSpelledPlan);
      allowed = omega (arith, one);
      read = read.1 ∙ sym (append_assoc (plan_line names) (10 ∷ []) there.rest.now);
      counted = counted;
      stops = λ x rest right avoids few e. absurd (omega (arith, one, few));
    }

-- nothing is taken from no plans
pub none_left : (plans : List Lines) (last : Option Lines) (count : ℕ) → count ≡ length plans → (IsSome last ↔ (0 < count)) → last ≡ None → plans ≡ []
none_left [] last count long some none = refl
none_left (names ∷ plans) last count long some none = absurd (true≢false (sym (some.1 (omega (arith, long))) ∙ ap is_some none))

-- the last of at most one is the only one
pub only_plan : (plans left : List Lines) (last : Option Lines) → length plans ≤ 1 → plans ≡ left ++ option_to_list last → (last ≡ None → plans ≡ []) → plans ≡ option_to_list last
only_plan plans left None few e none = none refl
only_plan plans [] (Some names) few e none = e
only_plan plans (first ∷ left) (Some names) few e none = absurd (omega (arith, few, ap length e, length-append left (names ∷ [])))

-- The plan and the late changes -------------------------------------------------------------------

-- up to the last line, of a row with the head and the figures
pub to_end : {version : Version} (head : Head) (base : Figures) → IsSpelledHead version head → AreSpelledFigures base → (l0 l1 l2 : Point) (plan : Option Lines) (changes : List Lmc) → IsPlanFor head.stage plan → Plans head.stage l0 l1 (option_to_list plan)
    → PartBetween change_line IsSpelledChange (AreSpelledChanges base head.stage) l1 l2 changes
    → Leads (from_plan version head base) l0 (from_end version head base (option_to_list plan) changes) l2 × (from_end version head base (option_to_list plan) changes).Is (version, row_with head base plan changes)
to_end {version = version} head base h f l0 l1 l2 plan changes right planned changed =
    let plans = option_to_list plan in (
      then (past_run (starts_with_plan version head base) l0 l1 planned) (past_run (starts_with_changes version head base plans) l1 l2 changed),
      ((has_figures version head base plan changes (row_right h f right changed.allowed), refl), refl),
    )
