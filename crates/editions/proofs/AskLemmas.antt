-- what is written down of a request
use Rattle.std.proofs.Common.{◌≡◌, ◌↔◌, ℕ, Bool, List, Option, None, Some, IsTrue, All, sym, ap, subst, inl, inr, arith}
use Rattle.std.specs.Prelude.{IsSomeAnd, Result, Ok, Err, slice_get}
use Rattle.std.proofs.lemmas.Option.{slice_get_cases}
use Rattle.hold_limits.specs.Problem.{Problem}
use Rattle.aircraft_file.specs.Craft.{Craft}
use Rattle.trim.specs.declared.fault.TrimFault.{TrimFault}
use Rattle.trim.specs.Refusals.{IsTaskOf}
use Rattle.trim.proofs.LawLemmas.{task-once, unrefused}
use Rattle.flight_state.specs.declared.state.FlightState.{FlightState}
use Rattle.flight_state.specs.Effective.{effective}
use Rattle.flight_row.specs.Loading.{aircraft_of}
use Rattle.flight_history.specs.declared.entry.Act.{Act}
use Rattle.flight_history.specs.declared.entry.Act.TheVariants as act
use Rattle.flight_history.specs.declared.request.Request.{Request}
use Rattle.flight_history.specs.declared.request.Request.TheVariants.{NewFlight, Set, Take, Install, InstallBest, Release, Late, Reopen, Depart, Show}
use Rattle.flight_history.specs.History.{flight_at}
use Rattle.editions.specs.declared.flights.Flight.{Flight}
use Rattle.editions.specs.Acts.{IsActWith, HasPlanOf, IsActOf, IsWithinLimits}
use Rattle.editions.specs.Answers.{IsLawfulAt}
use Rattle.editions.specs.Places.{states, IsPlaceOf, IsPlanAt}
use Rattle.editions.specs.Sound.{IsTaskAnswer, IsKeptFlight, IsLawfulAct}
use Rattle.editions.proofs.PlaceLemmas.{place_none, place-within, flight_at-place, state-held, has}

-- the one task of the flight
task-is : (a : Craft) (s : FlightState) (t : Problem) (r : Result Problem TrimFault) → IsTaskAnswer a s r → IsTaskOf a (effective s) t → r ≡ Ok t
task-is a s t (Ok u) answer of_flight = ap Ok (task-once a (effective s) u t answer of_flight)
task-is a s t (Err fault) answer of_flight = absurd (answer.1 (unrefused a (effective s) t fault of_flight answer.0))

in-fleet : (c : Option Craft) (a : Craft) (P : Craft → Type 0) → c ≡ Some a → P a → IsSomeAnd c P
in-fleet c a P is p = subst (λ (x : Option Craft). IsSomeAnd x P) (sym is) p

of-fleet : (c : Option Craft) (a : Craft) (P : Craft → Type 0) → c ≡ Some a → IsSomeAnd c P → P a
of-fleet c a P is p = subst (λ (x : Option Craft). IsSomeAnd x P) is p

-- the plan was made for the task of the flight
plan-for : (fleet : List Craft) (flight : Flight) (t : Problem) → IsKeptFlight fleet flight → (flight.task ≡ Ok t) ↔ IsSomeAnd (aircraft_of fleet flight.state.leg) (λ a. IsTaskOf a (effective flight.state) t)
plan-for fleet flight t kept = (
  λ is. in-fleet (aircraft_of fleet flight.state.leg) kept.sound.aircraft (λ a. IsTaskOf a (effective flight.state) t) kept.sound.found (subst (IsTaskAnswer kept.sound.aircraft flight.state) is kept.task),
  λ has_task. task-is kept.sound.aircraft flight.state t flight.task kept.task (of-fleet (aircraft_of fleet flight.state.leg) kept.sound.aircraft (λ a. IsTaskOf a (effective flight.state) t) kept.sound.found has_task),
)

-- the plan of a request, at a flight
abbrev IsPlanIn : Option Flight → Request → Type 0
IsPlanIn (Some flight) (Install key edition plan) = flight.task ≡ Ok plan.task
IsPlanIn (Some flight) (InstallBest key edition plan) = flight.task ≡ Ok plan.task
IsPlanIn _ _ = ⊥

plan-in : (fleet : List Craft) (flight : Flight) (request : Request) → IsKeptFlight fleet flight → IsPlanIn (Some flight) request ↔ HasPlanOf fleet (Some flight.state) request
plan-in fleet flight (NewFlight leg) kept = (λ h. h, λ h. h)
plan-in fleet flight (Set key edition told) kept = (λ h. h, λ h. h)
plan-in fleet flight (Take key edition) kept = (λ h. h, λ h. h)
plan-in fleet flight (Install key edition plan) kept = plan-for fleet flight plan.task kept
plan-in fleet flight (InstallBest key edition plan) kept = plan-for fleet flight plan.task kept
plan-in fleet flight (Release key edition) kept = (λ h. h, λ h. h)
plan-in fleet flight (Late key edition change) kept = (λ h. h, λ h. h)
plan-in fleet flight (Reopen key edition) kept = (λ h. h, λ h. h)
plan-in fleet flight (Depart key edition) kept = (λ h. h, λ h. h)
plan-in fleet flight (Show key what) kept = (λ h. h, λ h. h)

plan-held : (flights : List Flight) (i : ℕ) (flight : Flight) (request : Request) → slice_get flights i ≡ Some flight → IsPlanAt flights (Some i) request ↔ IsPlanIn (Some flight) request
plan-held flights i flight (NewFlight leg) held = (λ h. h, λ h. h)
plan-held flights i flight (Set key edition told) held = (λ h. h, λ h. h)
plan-held flights i flight (Take key edition) held = (λ h. h, λ h. h)
plan-held flights i flight (Install key edition plan) held = (
  λ h. subst (λ (o : Option Flight). IsSomeAnd o (λ (f : Flight). f.task ≡ Ok plan.task)) held h,
  λ h. subst (λ (o : Option Flight). IsSomeAnd o (λ (f : Flight). f.task ≡ Ok plan.task)) (sym held) h,
)
plan-held flights i flight (InstallBest key edition plan) held = (
  λ h. subst (λ (o : Option Flight). IsSomeAnd o (λ (f : Flight). f.task ≡ Ok plan.task)) held h,
  λ h. subst (λ (o : Option Flight). IsSomeAnd o (λ (f : Flight). f.task ≡ Ok plan.task)) (sym held) h,
)
plan-held flights i flight (Release key edition) held = (λ h. h, λ h. h)
plan-held flights i flight (Late key edition change) held = (λ h. h, λ h. h)
plan-held flights i flight (Reopen key edition) held = (λ h. h, λ h. h)
plan-held flights i flight (Depart key edition) held = (λ h. h, λ h. h)
plan-held flights i flight (Show key what) held = (λ h. h, λ h. h)

-- whether a plan is for the flight at the place of a key
pub plan-at : (fleet : List Craft) (flights : List Flight) (key : List ℕ) (place : Option ℕ) (request : Request) → All (IsKeptFlight fleet) flights → IsPlaceOf (states flights) key place
    → IsPlanAt flights place request ↔ HasPlanOf fleet (flight_at (states flights) key) request
plan-at fleet flights key None request kept at = (λ h. absurd h, λ h. absurd (subst (λ (s : Option FlightState). HasPlanOf fleet s request) (place_none (has key) (states flights) at) h))
plan-at fleet flights key (Some i) request kept at =
    let within = place-within flights key i at in
    elim (slice_get_cases flights i).1 as (λ _. IsPlanAt flights (Some i) request ↔ HasPlanOf fleet (flight_at (states flights) key) request) [
      | inl x ↦
          let flight = x.0 in
          let sound = subst (IsKeptFlight fleet) x.3 (kept i flight x.1) in
          let is = flight_at-place (states flights) key i flight.state at (state-held flights i flight x.2) in
          let here = plan-held flights i flight request x.2 in
          let there = plan-in fleet flight request sound in (
            λ h. subst (λ (s : Option FlightState). HasPlanOf fleet s request) (sym is) (there.0 (here.0 h)),
            λ h. here.1 (there.1 (subst (λ (s : Option FlightState). HasPlanOf fleet s request) is h)),
          )
      | inr x ↦ absurd (omega (arith, within, x.0))
    ]

-- Lawful acts -----------------------------------------------------------------------------------------------

-- what is written down of a request within the limits may come to its flight
lawful-with : (fleet : List Craft) (a : Craft) (s : FlightState) (request : Request) (same : Bool) (x : Act) → aircraft_of fleet s.leg ≡ Some a → IsWithinLimits request → (IsTrue same ↔ HasPlanOf fleet (Some s) request) → IsActWith same request x → IsLawfulAct a s x
lawful-with fleet a s (NewFlight leg) same x found within exactly asks = subst (IsLawfulAct a s) (sym asks) tt
lawful-with fleet a s (Set key edition told) same x found within exactly asks = subst (IsLawfulAct a s) (sym asks) within
lawful-with fleet a s (Take key edition) same x found within exactly asks = subst (IsLawfulAct a s) (sym asks) tt
lawful-with fleet a s (Install key edition plan) same x found within exactly asks =
    let fits : IsLawfulAct a s (act.Install edition asks.0 same) = λ is. (plan.task, of-fleet (aircraft_of fleet s.leg) a (λ c. IsTaskOf c (effective s) plan.task) found (exactly.0 is), asks.2) in
    subst (IsLawfulAct a s) (sym asks.3) fits
lawful-with fleet a s (InstallBest key edition plan) same x found within exactly asks =
    let fits : IsLawfulAct a s (act.Install edition asks.0 same) = λ is. (plan.task, of-fleet (aircraft_of fleet s.leg) a (λ c. IsTaskOf c (effective s) plan.task) found (exactly.0 is), asks.2) in
    subst (IsLawfulAct a s) (sym asks.3) fits
lawful-with fleet a s (Release key edition) same x found within exactly asks = subst (IsLawfulAct a s) (sym asks) tt
lawful-with fleet a s (Late key edition change) same x found within exactly asks = subst (IsLawfulAct a s) (sym asks) tt
lawful-with fleet a s (Reopen key edition) same x found within exactly asks = subst (IsLawfulAct a s) (sym asks) tt
lawful-with fleet a s (Depart key edition) same x found within exactly asks = subst (IsLawfulAct a s) (sym asks) tt
lawful-with fleet a s (Show key what) same x found within exactly asks = subst (IsLawfulAct a s) (sym asks) tt

pub lawful-at : (fleet : List Craft) (o : Option FlightState) (request : Request) (x : Act) → IsWithinLimits request → IsActOf fleet o request x → IsLawfulAt fleet o x
lawful-at fleet None request x within asked = tt
lawful-at fleet (Some s) request x within asked = λ a found. lawful-with fleet a s request asked.same x found within asked.exactly asked.asks
