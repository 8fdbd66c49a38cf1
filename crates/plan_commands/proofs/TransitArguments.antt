-- What arguments of a flight in transit ask for.
use Rattle.std.proofs.Common.{◌≡◌, ◌≢◌, ℕ, ◌≤◌, Bool, true, false, List, [], ◌∷◌, Some, None, refl, subst, if◌then◌else◌}
use Rattle.std.specs.Prelude.{codes}
use Rattle.mass_units.specs.Spelling.{number_text}
use Rattle.aircraft_file.specs.Spellings.{spelled}
use Rattle.flight_state.specs.Spellings.{is_station}
use Rattle.plan_answers.specs.Limits.{greatest_budget}
use Rattle.plan_commands.specs.Arguments.{Job, AskFor}
use Rattle.plan_commands.specs.Arguments.AskFor.{place_usually, place_within, check_certificate, best_usually, best_within, why_usually, why_within, check_best, priced_usually, priced_within, check_prices, stops_usually, stops_within, transit_usually, transit_within, transit_task, generate_load}

-- Stations --------------------------------------------------------------------------------------

tested-none : (test : Bool) (text : List ℕ) → None ≡ (if test then Some text else None) → test ≡ true → ⊥
tested-none true text none is = cc
tested-none false text none is = cc

tested-some : (test : Bool) (text got : List ℕ) → Some got ≡ (if test then Some text else None) → (got ≡ text) × (test ≡ true)
tested-some true text got some = (cc, refl)
tested-some false text got some = absurd cc

-- a text that is read as no station is none
pub no-station : (text bytes : List ℕ) → bytes ≡ text → None ≡ spelled is_station bytes → is_station text ≡ true → ⊥
no-station text bytes same none is = tested-none (is_station text) text (subst (λ b. None ≡ spelled is_station b) same none) is

-- and one that is read as a station is that station
pub read-station : (text bytes got : List ℕ) → bytes ≡ text → Some got ≡ spelled is_station bytes → (got ≡ text) × (is_station text ≡ true)
read-station text bytes got same some = tested-some (is_station text) text got (subst (λ b. Some got ≡ spelled is_station b) same some)

-- Operands --------------------------------------------------------------------------------------

-- a name and five operands that ask for a job name two stations
pub record AskWithFive (name station next : List ℕ) : Type 0 where
  pub stations : (is_station station ≡ true) × (is_station next ≡ true)
  pub named : name ≢ codes "transit" → name ≢ codes "transittask" → ⊥

pub five-operands : (name task cpm ldm station next : List ℕ) (job : Job) → AskFor (name ∷ task ∷ cpm ∷ ldm ∷ station ∷ next ∷ []) job
    → AskWithFive name station next
five-operands name task cpm ldm station next _ (place_usually t is) = cc
five-operands name task cpm ldm station next _ (place_within t n is low high) = cc
five-operands name task cpm ldm station next _ (check_certificate t c is) = cc
five-operands name task cpm ldm station next _ (best_usually t is) = cc
five-operands name task cpm ldm station next _ (why_usually t is) = cc
five-operands name task cpm ldm station next _ (best_within t n is low high) = cc
five-operands name task cpm ldm station next _ (why_within t n is low high) = cc
five-operands name task cpm ldm station next _ (check_best t c is) = cc
five-operands name task cpm ldm station next _ (priced_usually t is) = cc
five-operands name task cpm ldm station next _ (priced_within t n is low high) = cc
five-operands name task cpm ldm station next _ (check_prices t c is) = cc
five-operands name task cpm ldm station next _ (stops_usually file is) = cc
five-operands name task cpm ldm station next _ (stops_within file n is low high) = cc
five-operands name task cpm ldm station next _ (transit_usually names is stations) = record {
  stations = (let e : station ≡ names.station = cc in rw e stations.station, let e : next ≡ names.next = cc in rw e stations.next);
  named = λ other _. other cc;
}
five-operands name task cpm ldm station next _ (transit_within names n is stations low high) = cc
five-operands name task cpm ldm station next _ (transit_task names is stations) = record {
  stations = (let e : station ≡ names.station = cc in rw e stations.station, let e : next ≡ names.next = cc in rw e stations.next);
  named = λ _ other. other cc;
}
five-operands name task cpm ldm station next _ (generate_load n is fits) = cc

-- a name and six operands that ask for a job name two stations and a budget
pub record AskWithSix (name station next budget : List ℕ) : Type 0 where
  pub name_is : name ≡ codes "transit"
  pub stations : (is_station station ≡ true) × (is_station next ≡ true)
  pub number : ℕ
  pub said : budget ≡ number_text number
  pub low : 1 ≤ number
  pub high : number ≤ greatest_budget

pub six-operands : (name task cpm ldm station next budget : List ℕ) (job : Job) → AskFor (name ∷ task ∷ cpm ∷ ldm ∷ station ∷ next ∷ budget ∷ []) job
    → AskWithSix name station next budget
six-operands name task cpm ldm station next budget _ (place_usually t is) = cc
six-operands name task cpm ldm station next budget _ (place_within t n is low high) = cc
six-operands name task cpm ldm station next budget _ (check_certificate t c is) = cc
six-operands name task cpm ldm station next budget _ (best_usually t is) = cc
six-operands name task cpm ldm station next budget _ (why_usually t is) = cc
six-operands name task cpm ldm station next budget _ (best_within t n is low high) = cc
six-operands name task cpm ldm station next budget _ (why_within t n is low high) = cc
six-operands name task cpm ldm station next budget _ (check_best t c is) = cc
six-operands name task cpm ldm station next budget _ (priced_usually t is) = cc
six-operands name task cpm ldm station next budget _ (priced_within t n is low high) = cc
six-operands name task cpm ldm station next budget _ (check_prices t c is) = cc
six-operands name task cpm ldm station next budget _ (stops_usually file is) = cc
six-operands name task cpm ldm station next budget _ (stops_within file n is low high) = cc
six-operands name task cpm ldm station next budget _ (transit_usually names is stations) = cc
six-operands name task cpm ldm station next budget _ (transit_within names n is stations low high) = record {
  name_is = cc;
  stations = (let e : station ≡ names.station = cc in rw e stations.station, let e : next ≡ names.next = cc in rw e stations.next);
  number = n;
  said = cc;
  low = low;
  high = high;
}
six-operands name task cpm ldm station next budget _ (transit_task names is stations) = cc
six-operands name task cpm ldm station next budget _ (generate_load n is fits) = cc
