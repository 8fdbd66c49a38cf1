-- the answer to an act at a flight, as that of the office
use Rattle.std.proofs.Common.{refl, ◌≡◌, ℕ, Bool, true, List, Option, None, Some, All, ◌∙◌, sym, ap, subst}
use Rattle.std.proofs.lemmas.Option.{slice_get_within, get_or_from_slice_get}
use Rattle.std.specs.Prelude.{IsSomeAnd, slice_get, Result, Ok, Err, IfOk, option_map}
use Rattle.base_words.specs.declared.NoMemory.{NoMemory}
use Rattle.aircraft_file.specs.Craft.{Craft}
use Rattle.aircraft_file.specs.Lawful.{IsLawfulCraft}
use Rattle.flight_state.specs.declared.leg.Leg.{Leg}
use Rattle.flight_state.specs.declared.state.FlightState.{FlightState}
use Rattle.flight_state.specs.Legs.{key_of}
use Rattle.flight_row.specs.Loading.{aircraft_of}
use Rattle.flight_history.specs.declared.entry.Act.{Act}
use Rattle.flight_history.specs.declared.entry.Act.TheVariants as act
use Rattle.flight_history.specs.declared.request.Request.{Request}
use Rattle.flight_history.specs.declared.request.Request.TheVariants.{NewFlight, Set, Take, Install, InstallBest, Release, Late, Reopen, Depart, Show}
use Rattle.flight_history.specs.declared.reply.Refusal.{Refusal}
use Rattle.flight_history.specs.Fleet.{new_flight}
use Rattle.flight_history.specs.Replies.{AnswersWith}
use Rattle.flight_history.specs.Step.{step, after}
use Rattle.flight_history.specs.Verdict.{first_of, reasons, Says, FirstThen, IsVerdict}
use Rattle.editions.specs.declared.answers.Answer.{Answer}
use Rattle.editions.specs.declared.answers.Answer.TheVariants.{Refused, Told, Changed}
use Rattle.editions.specs.Acts.{keeps_figures, key_asked, IsActWith}
use Rattle.editions.specs.Answers.{IsVerdictWith, IsAnswerWith, IsAnswer, HasFiguresOf, KeepsFigures, KeepsKey, MakesSound, IsLawfulAt}
use Rattle.editions.specs.declared.flights.Flight.{Flight}
use Rattle.editions.specs.Sound.{IsReady, IsSound, IsKeptFlight}
use Rattle.editions.proofs.ReadyLemmas.{step-ready, ready-new}

-- with the aircraft of the flight
in-fleet : (c : Option Craft) (a : Craft) (P : Craft → Type 0) → c ≡ Some a → P a → IsSomeAnd c P
in-fleet c a P is p = subst (λ (x : Option Craft). IsSomeAnd x P) (sym is) p

verdict-by : (given : Option Refusal) (P Q : Option Refusal → Type 0) (v : Option Refusal) → (P v → Q v) → FirstThen given P v → FirstThen given Q v
verdict-by None P Q v turn h = turn h
verdict-by (Some reason) P Q v turn h = h

verdict-in : (fleet : List Craft) (full : Bool) (a : Craft) (s : FlightState) (x : Act) (v : Option Refusal) → aircraft_of fleet s.leg ≡ Some a → IsVerdictWith a s x v → IsVerdict fleet full (Some s) x v
verdict-in fleet full a s x v found h =
    verdict-by (first_of (reasons s x)) (Says a s x) (λ said. IsSomeAnd (aircraft_of fleet s.leg) (λ b. Says b s x said)) v (in-fleet (aircraft_of fleet s.leg) a (λ b. Says b s x v) found) h

-- no act changes the leg
step-leg : (s : FlightState) (x : Act) → (step s x).leg ≡ s.leg
step-leg s (act.NewFlight leg) = refl
step-leg s (act.Set edition told) = refl
step-leg s (act.Take edition) = refl
step-leg s (act.Install edition path same) = refl
step-leg s (act.Release edition) = refl
step-leg s (act.Late edition change) = refl
step-leg s (act.Reopen edition) = refl
step-leg s (act.Depart edition) = refl
step-leg s (act.Show what) = refl

-- the answer is that of the office
pub answer-in : (fleet : List Craft) (full : Bool) (a : Craft) (s : FlightState) (x : Act) (answer : Answer) → aircraft_of fleet s.leg ≡ Some a → IsAnswerWith a s x answer → IsAnswer fleet full (Some s) x answer
answer-in fleet full a s x (Refused refusal) found h = verdict-in fleet full a s x (Some refusal) found h
answer-in fleet full a s x (Told reply) found h =
    (verdict-in fleet full a s x None found h.0, h.1, ap Some h.2, in-fleet (aircraft_of fleet s.leg) a (λ b. AnswersWith b s x reply) found h.3)
answer-in fleet full a s x (Changed next reply) found h =
    let same : next.leg ≡ s.leg = ap (λ (t : FlightState). t.leg) (sym h.2) ∙ step-leg s x in
    (verdict-in fleet full a s x None found h.0, h.1, ap Some h.2, in-fleet (aircraft_of fleet next.leg) a (λ b. AnswersWith b next x reply) (ap (aircraft_of fleet) same ∙ found) h.3)

-- what it changes is sound
pub sound-in : (fleet : List Craft) (a : Craft) (s : FlightState) (x : Act) (answer : Answer) → aircraft_of fleet s.leg ≡ Some a → IsLawfulCraft a → IsReady a s → IsLawfulAt fleet (Some s) x → IsAnswerWith a s x answer → MakesSound fleet answer
sound-in fleet a s x (Refused refusal) found hold ready lawful h = tt
sound-in fleet a s x (Told reply) found hold ready lawful h = tt
sound-in fleet a s x (Changed next reply) found hold ready lawful h =
    let same : next.leg ≡ s.leg = ap (λ (t : FlightState). t.leg) (sym h.2) ∙ step-leg s x in
    record { aircraft = a; found = ap (aircraft_of fleet) same ∙ found; lawful = hold; ready = subst (IsReady a) h.2 (step-ready a s x ready (lawful a found) h.0) }

-- where there is an answer
pub answers-in : (fleet : List Craft) (full : Bool) (a : Craft) (s : FlightState) (x : Act) (r : Result Answer NoMemory) → aircraft_of fleet s.leg ≡ Some a → IfOk r (IsAnswerWith a s x) → IfOk r (IsAnswer fleet full (Some s) x)
answers-in fleet full a s x (Ok answer) found h = answer-in fleet full a s x answer found h
answers-in fleet full a s x (Err e) found h = tt

pub sounds-in : (fleet : List Craft) (a : Craft) (s : FlightState) (x : Act) (r : Result Answer NoMemory) → aircraft_of fleet s.leg ≡ Some a → IsLawfulCraft a → IsReady a s → IsLawfulAt fleet (Some s) x → IfOk r (IsAnswerWith a s x) → IfOk r (MakesSound fleet)
sounds-in fleet a s x (Ok answer) found hold ready lawful h = sound-in fleet a s x answer found hold ready lawful h
sounds-in fleet a s x (Err e) found hold ready lawful h = tt

-- Figures -------------------------------------------------------------------------------------------------

-- an act that leaves the figures as they are changes neither the leg nor the effective figures
step-figures : (s : FlightState) (x : Act) → keeps_figures x ≡ true → HasFiguresOf (step s x) s
step-figures s (act.NewFlight leg) keeps = absurd (cc (keeps))
step-figures s (act.Set edition told) keeps = absurd (cc (keeps))
step-figures s (act.Take edition) keeps = (refl, refl)
step-figures s (act.Install edition path same) keeps = (refl, refl)
step-figures s (act.Release edition) keeps = (refl, refl)
step-figures s (act.Late edition change) keeps = absurd (cc (keeps))
step-figures s (act.Reopen edition) keeps = (refl, refl)
step-figures s (act.Depart edition) keeps = (refl, refl)
step-figures s (act.Show what) keeps = (refl, refl)

keeps-figures : (fleet : List Craft) (full : Bool) (o : Option FlightState) (x : Act) (answer : Answer) → keeps_figures x ≡ true → IsAnswer fleet full o x answer → KeepsFigures o answer
keeps-figures fleet full o x (Refused refusal) keeps h = tt
keeps-figures fleet full o x (Told reply) keeps h = tt
keeps-figures fleet full None x (Changed next reply) keeps h = tt
keeps-figures fleet full (Some s) x (Changed next reply) keeps h =
    let now : step s x ≡ next = let is = h.2 in cc (is) in
    subst (λ (t : FlightState). HasFiguresOf t s) now (step-figures s x keeps)

-- so what it changes keeps its figures
pub keep-figures : (fleet : List Craft) (full : Bool) (o : Option FlightState) (x : Act) (r : Result Answer NoMemory) → keeps_figures x ≡ true → IfOk r (IsAnswer fleet full o x) → IfOk r (KeepsFigures o)
keep-figures fleet full o x (Ok answer) keeps h = keeps-figures fleet full o x answer keeps h
keep-figures fleet full o x (Err e) keeps h = tt

-- Keys ----------------------------------------------------------------------------------------------------

opened-leg : (c : Option Craft) (leg : Leg) (next : FlightState) → option_map (λ a. new_flight a leg) c ≡ Some next → next.leg ≡ leg
opened-leg None leg next is = absurd (cc (is))
opened-leg (Some a) leg next is = let same : new_flight a leg ≡ next = cc (is) in ap (λ (s : FlightState). s.leg) (sym same)

-- what is changed has the key that was asked for
after-key : (fleet : List Craft) (o : Option FlightState) (request : Request) (same : Bool) (x : Act) (next : FlightState) → IsActWith same request x → ((s : FlightState) → o ≡ Some s → key_of s.leg ≡ key_asked request)
    → after fleet o x ≡ Some next → key_of next.leg ≡ key_asked request
after-key fleet (Some s) request same x next asks own is =
    let now : step s x ≡ next = cc (is) in
    ap (λ (t : FlightState). key_of t.leg) (sym now) ∙ ap key_of (step-leg s x) ∙ own s refl
after-key fleet None (NewFlight leg) same x next asks own is =
    ap key_of (opened-leg (aircraft_of fleet leg) leg next (subst (λ (y : Act). after fleet None y ≡ Some next) asks is))
after-key fleet None (Set key edition told) same x next asks own is = let no = subst (λ (y : Act). after fleet None y ≡ Some next) asks is in absurd (cc (no))
after-key fleet None (Take key edition) same x next asks own is = let no = subst (λ (y : Act). after fleet None y ≡ Some next) asks is in absurd (cc (no))
after-key fleet None (Install key edition plan) same x next asks own is = let no = subst (λ (y : Act). after fleet None y ≡ Some next) asks.3 is in absurd (cc (no))
after-key fleet None (InstallBest key edition plan) same x next asks own is = let no = subst (λ (y : Act). after fleet None y ≡ Some next) asks.3 is in absurd (cc (no))
after-key fleet None (Release key edition) same x next asks own is = let no = subst (λ (y : Act). after fleet None y ≡ Some next) asks is in absurd (cc (no))
after-key fleet None (Late key edition change) same x next asks own is = let no = subst (λ (y : Act). after fleet None y ≡ Some next) asks is in absurd (cc (no))
after-key fleet None (Reopen key edition) same x next asks own is = let no = subst (λ (y : Act). after fleet None y ≡ Some next) asks is in absurd (cc (no))
after-key fleet None (Depart key edition) same x next asks own is = let no = subst (λ (y : Act). after fleet None y ≡ Some next) asks is in absurd (cc (no))
after-key fleet None (Show key what) same x next asks own is = let no = subst (λ (y : Act). after fleet None y ≡ Some next) asks is in absurd (cc (no))

pub keeps-key : (fleet : List Craft) (full : Bool) (o : Option FlightState) (request : Request) (same : Bool) (x : Act) (answer : Answer) → IsActWith same request x → ((s : FlightState) → o ≡ Some s → key_of s.leg ≡ key_asked request)
    → IsAnswer fleet full o x answer → KeepsKey (key_asked request) answer
keeps-key fleet full o request same x (Refused refusal) asks own h = tt
keeps-key fleet full o request same x (Told reply) asks own h = tt
keeps-key fleet full o request same x (Changed next reply) asks own h = after-key fleet o request same x next asks own h.2

pub keep-key : (fleet : List Craft) (full : Bool) (o : Option FlightState) (request : Request) (same : Bool) (x : Act) (r : Result Answer NoMemory) → IsActWith same request x → ((s : FlightState) → o ≡ Some s → key_of s.leg ≡ key_asked request)
    → IfOk r (IsAnswer fleet full o x) → IfOk r (KeepsKey (key_asked request))
keep-key fleet full o request same x (Ok answer) asks own h = keeps-key fleet full o request same x answer asks own h
keep-key fleet full o request same x (Err e) asks own h = tt

-- The flight at a place -------------------------------------------------------------------------------------

pub kept-at : (fleet : List Craft) (flights : List Flight) (i : ℕ) (flight : Flight) → All (IsKeptFlight fleet) flights → slice_get flights i ≡ Some flight → IsKeptFlight fleet flight
kept-at fleet flights i flight kept held =
    subst (IsKeptFlight fleet) (get_or_from_slice_get flights i flight flight held) (kept i flight (slice_get_within flights i flight held))

-- with its aircraft, however it was found
pub ready-as : (fleet : List Craft) (flight : Flight) (a : Craft) → IsKeptFlight fleet flight → aircraft_of fleet flight.state.leg ≡ Some a → IsReady a flight.state
ready-as fleet flight a kept found =
    let same : kept.sound.aircraft ≡ a = cc (kept.sound.found, found) in
    subst (λ (b : Craft). IsReady b flight.state) same kept.sound.ready

-- its aircraft is in the fleet
pub found-there : (fleet : List Craft) (s : FlightState) → IsSound fleet s → None ≡ aircraft_of fleet s.leg → ⊥
found-there fleet s sound none = let found = sound.found in absurd (cc (none, found))

-- a flight that is opened is sound
pub sound-new : (fleet : List Craft) (a : Craft) (leg copy : Leg) (next : FlightState) → aircraft_of fleet leg ≡ Some a → IsLawfulCraft a → copy ≡ leg → next ≡ new_flight a copy → IsSound fleet next
sound-new fleet a leg copy next found lawful same is = record {
  aircraft = a;
  found = ap (λ (s : FlightState). aircraft_of fleet s.leg) is ∙ ap (aircraft_of fleet) same ∙ found;
  lawful = lawful;
  ready = subst (IsReady a) (sym is) (ready-new a copy lawful);
}
