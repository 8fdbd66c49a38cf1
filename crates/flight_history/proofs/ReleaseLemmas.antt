-- when a release is accepted
use Rattle.std.proofs.Common.{refl, ◌≡◌, ◌↔◌, ℕ, Bool, true, false, List, [], ◌∷◌, Option, None, Some, arith, nat_lt}
use Rattle.std.specs.Prelude.{is_none, IsSomeAnd}
use Rattle.std.specs.Option.{option_or}
use Rattle.std.proofs.lemmas.Bool.Decides.{nat_tests}
use Rattle.aircraft_file.specs.Craft.{Craft}
use Rattle.flight_state.specs.declared.state.FlightState.{FlightState}
use Rattle.flight_row.specs.Loading.{aircraft_of}
use Rattle.flight_history.specs.declared.entry.Act.TheVariants.{Release}
use Rattle.flight_history.specs.declared.reply.Refusal.{Refusal}
use Rattle.flight_history.specs.declared.reply.Refusal.TheVariants as no
use Rattle.flight_history.specs.Released.{MayBeReleased}
use Rattle.flight_history.specs.Verdict.{is_departed, refuse_if, first_of, not_current, no_plan, reasons, Says, FirstThen, IsVerdict}

-- what is next, where no reason came first
pub first_none : (given : Option Refusal) (IsNext : Option Refusal → Type 0) → FirstThen given IsNext None → (given ≡ None) × IsNext None
first_none None IsNext h = (refl, h)
first_none (Some r) IsNext h = absurd (cc (h))

pub both_none : (a b : Option Refusal) → option_or a b ≡ None → (a ≡ None) × (b ≡ None)
both_none None b h = (refl, h)
both_none (Some r) b h = absurd (cc (h))

pub current_by : (d l g : Bool) (n : ℕ) → first_of (refuse_if d no.Gone ∷ refuse_if l (no.Stale n) ∷ refuse_if g (no.Ahead n) ∷ []) ≡ None → (d ≡ false) × (l ≡ false) × (g ≡ false)
current_by true l g n h = absurd (cc (h))
current_by false true g n h = absurd (cc (h))
current_by false false true n h = absurd (cc (h))
current_by false false false n h = (refl, refl, refl)

newest : (e n : ℕ) → nat_lt e n ≡ false → nat_lt n e ≡ false → e ≡ n
newest e n h g = grind (arith, nat_tests)

not_less : (n : ℕ) → nat_lt n n ≡ false
not_less n = grind (arith, nat_tests)

plan_there : {A : Type 0} (c : Option Craft) (plan : Option A) (P : Craft → A → Type 0) → IsSomeAnd c (λ a. IsSomeAnd plan (P a)) → refuse_if (is_none plan) no.NoPlanYet ≡ None
plan_there None plan P h = absurd h
plan_there (Some a) None P h = absurd h
plan_there (Some a) (Some path) P h = refl

now_current : (d : Bool) (e n : ℕ) → d ≡ false → e ≡ n → first_of (refuse_if d no.Gone ∷ refuse_if (nat_lt e n) (no.Stale n) ∷ refuse_if (nat_lt n e) (no.Ahead n) ∷ []) ≡ None
now_current d e n here same = rw (here, same, not_less n) refl

as_first : (given : Option Refusal) (IsNext : Option Refusal → Type 0) → given ≡ None → IsNext None → FirstThen given IsNext None
as_first None IsNext h next = next
as_first (Some r) IsNext h next = absurd (cc (h))

-- a release is accepted exactly where it may be
pub release-exactly : (fleet : List Craft) (full : Bool) (s : FlightState) (edition : ℕ) → IsVerdict fleet full (Some s) (Release edition) None ↔ MayBeReleased fleet s edition
release-exactly fleet full s edition = (
  λ accepted.
      let parts = first_none (first_of (reasons s (Release edition))) (λ said. IsSomeAnd (aircraft_of fleet s.leg) (λ a. Says a s (Release edition) said)) accepted in
      let reasons_none = both_none (not_current s edition) (option_or (no_plan s) None) parts.0 in
      let tests = current_by (is_departed s.stage) (nat_lt edition s.edition) (nat_lt s.edition edition) s.edition reasons_none.0 in
      record { here = tests.0; newest = newest edition s.edition tests.1 tests.2; kept = parts.1 },
  λ may. as_first (first_of (reasons s (Release edition))) (λ said. IsSomeAnd (aircraft_of fleet s.leg) (λ a. Says a s (Release edition) said))
      (rw (now_current (is_departed s.stage) edition s.edition may.here may.newest, plan_there (aircraft_of fleet s.leg) s.plan _ may.kept) refl) may.kept,
)
