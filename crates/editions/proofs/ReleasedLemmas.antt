-- a flight is released
use Rattle.std.proofs.Common.{refl, ◌≡◌, ℕ, ◌+◌, ◌==◌, min, Bool, true, false, List, [], ◌∷◌, length, Option, None, Some, cond, arith, ◌∙◌, sym, ap, subst}
use Rattle.std.specs.Prelude.{IsSome, IsSomeAnd}
use Rattle.std.proofs.lemmas.Bool.Decides.{nat_tests}
use Rattle.arrayvec.specs.ArrayVec.{ArrayVec}
use Rattle.aircraft_file.specs.Craft.{Craft}
use Rattle.trim.specs.declared.rules.Rule.{Rule}
use Rattle.trim.specs.Rules.{AreBroken}
use Rattle.flight_state.specs.declared.state.FlightState.{FlightState}
use Rattle.flight_state.specs.declared.state.Stage.{Stage}
use Rattle.flight_state.specs.declared.state.Stage.TheVariants.{Working, Planned, Released, Departed}
use Rattle.flight_state.specs.Effective.{effective}
use Rattle.flight_row.specs.Spelled.{HasPlanFor}
use Rattle.last_minute.specs.Planned.{HasBalance, path_of}
use Rattle.flight_history.specs.declared.entry.Act.TheVariants.{Release}
use Rattle.flight_history.specs.declared.reply.Refusal.{Refusal}
use Rattle.flight_history.specs.declared.reply.Refusal.TheVariants as no
use Rattle.flight_history.specs.declared.reply.Reply.{Reply}
use Rattle.flight_history.specs.Standing.{is_planned}
use Rattle.flight_history.specs.Step.{step}
use Rattle.flight_history.specs.Verdict.{is_departed, is_released, not_current, no_plan}
use Rattle.editions.specs.declared.answers.Answer.TheVariants.{Told, Changed}
use Rattle.editions.specs.Answers.{IsVerdictWith, IsAnswerWith}
use Rattle.editions.specs.Documents.{IsSheetWith}
use Rattle.editions.specs.Sound.{IsReady}
use Rattle.editions.proofs.ReadyLemmas.{ready-balance, ready-release, released-is, not-departed}
use Rattle.editions.proofs.ReasonLemmas.{none-from, none-two, verdict-said, plan-some, rules-by}

zero-of : (n : ℕ) (b : Bool) → b ≡ (n == 0) → b ≡ true → n ≡ 0
zero-of n b is holds = grind (arith, nat_tests)

some-of : (n : ℕ) (b : Bool) → b ≡ (n == 0) → b ≡ false → n ≡ 0 → ⊥
some-of n b is fails zero = grind (arith, nat_tests)

nil-of : {X : Type 0} (xs : List X) → length xs ≡ 0 → xs ≡ []
nil-of [] none = refl
nil-of (x ∷ xs) none = absurd (omega (arith, none))

-- no reason against a release lies in the stage, the edition and the plan
pub record MayRelease (a : Craft) (s : FlightState) (edition : ℕ) : Type 0 where
  pub ready : IsReady a s
  pub current : not_current s edition ≡ None
  pub planned : no_plan s ≡ None

pub may-release : (a : Craft) (s : FlightState) (edition : ℕ) (x y : Option Refusal) → IsReady a s → x ≡ not_current s edition → y ≡ no_plan s
    → ((r : Refusal) → x ≡ Some r → ⊥) → ((r : Refusal) → y ≡ Some r → ⊥) → MayRelease a s edition
may-release a s edition x y ready current planned no_first no_second = record {
  ready = ready;
  current = sym current ∙ none-from x no_first;
  planned = sym planned ∙ none-from y no_second;
}

-- a flight with a plan that has not left is planned or released
planned-is : (stage : Stage) (P : Type 0) (plan : Option P) → is_departed stage ≡ false → HasPlanFor stage plan → IsSome plan → is_released stage ≡ false → is_planned stage ≡ true
planned-is Working P None here fits some other = absurd (cc (some))
planned-is Working P (Some plan) here fits some other = absurd (cc (fits))
planned-is Planned P plan here fits some other = refl
planned-is Released P plan here fits some other = absurd (cc (other))
planned-is Departed P plan here fits some other = absurd (cc (here))

module _ (a : Craft) (s : FlightState) (edition : ℕ) (m : MayRelease a s edition) where
  has-plan : IsSome s.plan
  has-plan = plan-some s.plan m.planned

  pub may-balance : HasBalance a s
  may-balance = ready-balance a s m.ready has-plan

  -- some rules are broken
  pub release-broken : (rules : ArrayVec Rule) (empty : Bool) → AreBroken a (effective s) (path_of s) rules.items → empty ≡ (length rules.items == 0) → empty ≡ false → IsVerdictWith a s (Release edition) (Some (no.Broken rules))
  release-broken rules empty are told fails =
      verdict-said a s (Release edition) (Some (no.Broken rules)) (none-two (not_current s edition) (no_plan s) m.current m.planned) (rules-by a (effective s) s.plan rules.items has-plan are, λ none. some-of (length rules.items) empty told fails (ap (λ (found : List Rule). length found) none))

  -- none is
  pub none-broken : (rules : List Rule) (empty : Bool) → AreBroken a (effective s) (path_of s) rules → empty ≡ (length rules == 0) → empty ≡ true → IsSomeAnd s.plan (λ (path : ArrayVec ℕ). AreBroken a (effective s) path.items [])
  none-broken rules empty are told holds =
      subst (λ (found : List Rule). IsSomeAnd s.plan (λ (path : ArrayVec ℕ). AreBroken a (effective s) path.items found)) (nil-of rules (zero-of (length rules) empty told holds)) (rules-by a (effective s) s.plan rules has-plan are)

  passed : IsSomeAnd s.plan (λ (path : ArrayVec ℕ). AreBroken a (effective s) path.items []) → IsVerdictWith a s (Release edition) None
  passed none = verdict-said a s (Release edition) None (none-two (not_current s edition) (no_plan s) m.current m.planned) none

  -- a released flight stays as it is
  again : s.stage ≡ Released → step s (Release edition) ≡ s
  again is = λ i. record {
    leg = s.leg;
    edition = s.edition;
    stage = sym is i;
    base = s.base;
    plan = s.plan;
    lmcs = s.lmcs;
    releases = ap (λ (stage : Stage). cond (is_planned stage) (min (s.releases + 1) 1000000000) s.releases) is i;
  }

  pub release-told : (reply : Reply) → IsSomeAnd s.plan (λ (path : ArrayVec ℕ). AreBroken a (effective s) path.items []) → is_released s.stage ≡ true → IsSheetWith a s reply → IsAnswerWith a s (Release edition) (Told reply)
  release-told reply none released sheet =
      let is = released-is s.stage released in
      (passed none, ap is_planned is, again is, sheet)

  -- a planned one is released
  pub release-balance : (next : FlightState) → IsSomeAnd s.plan (λ (path : ArrayVec ℕ). AreBroken a (effective s) path.items []) → next ≡ step s (Release 0) → HasBalance a next
  release-balance next none is =
      ready-balance a next (subst (IsReady a) (sym is) (ready-release a s edition m.ready (not-departed s edition m.current) none)) (subst (λ (t : FlightState). IsSome t.plan) (sym is) has-plan)

  pub release-changed : (next : FlightState) (reply : Reply) → IsSomeAnd s.plan (λ (path : ArrayVec ℕ). AreBroken a (effective s) path.items []) → is_released s.stage ≡ false → next ≡ step s (Release 0) → IsSheetWith a next reply → IsAnswerWith a s (Release edition) (Changed next reply)
  release-changed next reply none unreleased is sheet =
      (passed none, planned-is s.stage (ArrayVec ℕ) s.plan (not-departed s edition m.current) m.ready.row.plan has-plan unreleased, sym is, sheet)
