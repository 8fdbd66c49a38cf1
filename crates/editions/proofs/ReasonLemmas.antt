-- what is said where no reason came first
use Rattle.std.proofs.Common.{refl, ◌≡◌, ℕ, List, [], ◌∷◌, Option, None, Some, ◌∙◌, ap}
use Rattle.std.specs.Prelude.{IsSome, IsSomeAnd, is_none, option_map, unwrap_or}
use Rattle.std.specs.Option.{option_or}
use Rattle.arrayvec.specs.ArrayVec.{ArrayVec}
use Rattle.aircraft_file.specs.Craft.{Craft}
use Rattle.trim.specs.declared.figures.Figures.{Figures}
use Rattle.trim.specs.declared.rules.Rule.{Rule}
use Rattle.trim.specs.Rules.{AreBroken}
use Rattle.flight_state.specs.declared.state.FlightState.{FlightState}
use Rattle.flight_history.specs.declared.entry.Act.{Act}
use Rattle.flight_history.specs.declared.reply.Refusal.{Refusal}
use Rattle.flight_history.specs.declared.reply.Refusal.TheVariants as no
use Rattle.flight_history.specs.Verdict.{first_of, reasons, refuse_if, Says, FirstThen}
use Rattle.editions.specs.Answers.{IsVerdictWith}

-- what is not some reason is none
pub none-from : {X : Type 0} (r : Option X) → ((x : X) → r ≡ Some x → ⊥) → r ≡ None
none-from None other = refl
none-from (Some x) other = absurd (other x refl)

pub none-two : (x y : Option Refusal) → x ≡ None → y ≡ None → first_of (x ∷ y ∷ []) ≡ None
none-two x y one other = ap (λ (o : Option Refusal). option_or o (option_or y None)) one ∙ ap (λ (o : Option Refusal). option_or o None) other

pub none-one : (x : Option Refusal) → x ≡ None → first_of (x ∷ []) ≡ None
none-one x one = ap (λ (o : Option Refusal). option_or o None) one

first-then : (given : Option Refusal) (P : Option Refusal → Type 0) (v : Option Refusal) → given ≡ None → P v → FirstThen given P v
first-then None P v none said = said
first-then (Some r) P v none said = absurd (cc (none))

-- where no reason comes first, the verdict is what the figures say
pub verdict-said : (a : Craft) (s : FlightState) (x : Act) (v : Option Refusal) → first_of (reasons s x) ≡ None → Says a s x v → IsVerdictWith a s x v
verdict-said a s x v none said = first-then (first_of (reasons s x)) (Says a s x) v none said

-- a flight that is not refused for having no plan has one
pub plan-some : (o : Option (ArrayVec ℕ)) → refuse_if (is_none o) no.NoPlanYet ≡ None → IsSome o
plan-some None h = absurd (cc (h))
plan-some (Some path) h = refl

-- the broken rules, by the plan
pub rules-by : (a : Craft) (f : Figures) (o : Option (ArrayVec ℕ)) (found : List Rule) → IsSome o → AreBroken a f (unwrap_or (option_map (λ (p : ArrayVec ℕ). p.items) o) []) found → IsSomeAnd o (λ (path : ArrayVec ℕ). AreBroken a f path.items found)
rules-by a f None found some broken = absurd (cc (some))
rules-by a f (Some path) found some broken = broken
