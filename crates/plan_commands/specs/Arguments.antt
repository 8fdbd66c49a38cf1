-- The arguments of the program.
use Rattle.std.specs.Prelude.{◌≡◌, ℕ, ◌<◌, ◌≤◌, ◌^◌, true, List, [], ◌∷◌, ◌++◌, All, take, map, codes, String, string_bytes}
use Rattle.std.specs.declared.alloc.Global.{Global}
use Rattle.mass_units.specs.Spelling.{number_text}
use Rattle.flight_state.specs.Spellings.{is_station}
use Rattle.plan_answers.specs.Limits.{usual_budget, greatest_budget, greatest_priced_budget}
use Rattle.transit_answers.specs.declared.answers.TransitQuestion.{TransitQuestion}
use Rattle.transit_answers.specs.declared.answers.TransitQuestion.TheVariants.{BestPlan, TaskAround}

-- the bytes of each argument
abbrev pub arguments_of : List (String Global) → List (List ℕ)
arguments_of arguments = map string_bytes arguments

abbrev pub BeginsWithMinus : List ℕ → Type 0
BeginsWithMinus argument = take 1 argument ≡ codes "-"

-- how many choices a search by trees looks at, for each question, if the arguments do not say it, and the greatest number
abbrev pub usual_looks : ℕ
usual_looks = 20000

abbrev pub greatest_looks : ℕ
greatest_looks = 1000000

-- the budget of a search over several sectors if the arguments name none, and the greatest one
abbrev pub usual_stop_budget : ℕ
usual_stop_budget = 2000

abbrev pub greatest_stop_budget : ℕ
greatest_stop_budget = 5000

-- the files of a flight in transit with its task and its inbound messages, the station where it is, and the next one
pub record FlightNames : Type 0 where
  pub task : List ℕ
  pub cpm : List ℕ
  pub ldm : List ℕ
  pub station : List ℕ
  pub next : List ℕ

-- the same as arguments
abbrev pub words_of : FlightNames → List (List ℕ)
words_of names = names.task ∷ names.cpm ∷ names.ldm ∷ names.station ∷ names.next ∷ []

pub record HaveStations (names : FlightNames) : Type 0 where
  pub station : is_station names.station ≡ true
  pub next : is_station names.next ≡ true

-- what the program can be asked for
pub data Job : Type 0 where
  -- the best placement of the task in a file, with a budget
  place : (task : List ℕ) (budget : ℕ) → Job
  -- whether a certificate in a file is good for the task in another
  check : (task certificate : List ℕ) → Job
  -- the best placement of the task in a file by trees, with so many looks, or by the best-first search where these do not decide it
  best : (task : List ℕ) (looks : ℕ) → Job
  -- why the task in a file has no plan, with so many looks for each question
  why : (task : List ℕ) (looks : ℕ) → Job
  -- whether a certificate of either kind in a file is good for the task in another
  check_any : (task certificate : List ℕ) → Job
  -- the best placement of the task in a file by a search with prices, with a budget
  priced : (task : List ℕ) (budget : ℕ) → Job
  -- whether a certificate with prices in a file is good for the task in another
  check_priced : (task certificate : List ℕ) → Job
  -- the best placement of the load over several sectors in a file, with a budget
  stops : (file : List ℕ) (budget : ℕ) → Job
  -- what is asked about the flight in transit that three files state
  transit : (names : FlightNames) (question : TransitQuestion) → Job
  -- the placement of the load that is made from a number
  generate : (number : ℕ) → Job

-- the arguments that ask for a job
pub data AskFor (arguments : List (List ℕ)) : Job → Type 0 where
  -- `place TASK`
  place_usually : (task : List ℕ) → arguments ≡ codes "place" ∷ task ∷ [] → AskFor arguments (place task usual_budget)
  -- `place TASK BUDGET`
  place_within : (task : List ℕ) (budget : ℕ) → arguments ≡ codes "place" ∷ task ∷ number_text budget ∷ [] → 1 ≤ budget → budget ≤ greatest_budget
      → AskFor arguments (place task budget)
  -- `check TASK CERTIFICATE`
  check_certificate : (task certificate : List ℕ) → arguments ≡ codes "check" ∷ task ∷ certificate ∷ []
      → AskFor arguments (check task certificate)
  -- `best TASK`
  best_usually : (task : List ℕ) → arguments ≡ codes "best" ∷ task ∷ [] → AskFor arguments (best task usual_looks)
  -- `best TASK LOOKS`
  best_within : (task : List ℕ) (looks : ℕ) → arguments ≡ codes "best" ∷ task ∷ number_text looks ∷ [] → 1 ≤ looks → looks ≤ greatest_looks
      → AskFor arguments (best task looks)
  -- `why TASK`
  why_usually : (task : List ℕ) → arguments ≡ codes "why" ∷ task ∷ [] → AskFor arguments (why task usual_looks)
  -- `why TASK LOOKS`
  why_within : (task : List ℕ) (looks : ℕ) → arguments ≡ codes "why" ∷ task ∷ number_text looks ∷ [] → 1 ≤ looks → looks ≤ greatest_looks
      → AskFor arguments (why task looks)
  -- `bestcheck TASK CERTIFICATE`
  check_best : (task certificate : List ℕ) → arguments ≡ codes "bestcheck" ∷ task ∷ certificate ∷ []
      → AskFor arguments (check_any task certificate)
  -- `priced TASK`
  priced_usually : (task : List ℕ) → arguments ≡ codes "priced" ∷ task ∷ [] → AskFor arguments (priced task greatest_priced_budget)
  -- `priced TASK BUDGET`
  priced_within : (task : List ℕ) (budget : ℕ) → arguments ≡ codes "priced" ∷ task ∷ number_text budget ∷ [] → 1 ≤ budget → budget ≤ greatest_priced_budget
      → AskFor arguments (priced task budget)
  -- `pricedcheck TASK CERTIFICATE`
  check_prices : (task certificate : List ℕ) → arguments ≡ codes "pricedcheck" ∷ task ∷ certificate ∷ []
      → AskFor arguments (check_priced task certificate)
  -- `stops FILE`
  stops_usually : (file : List ℕ) → arguments ≡ codes "stops" ∷ file ∷ [] → AskFor arguments (stops file usual_stop_budget)
  -- `stops FILE BUDGET`
  stops_within : (file : List ℕ) (budget : ℕ) → arguments ≡ codes "stops" ∷ file ∷ number_text budget ∷ [] → 1 ≤ budget → budget ≤ greatest_stop_budget
      → AskFor arguments (stops file budget)
  -- `transit TASK CPM LDM STATION NEXT`
  transit_usually : (names : FlightNames) → arguments ≡ codes "transit" ∷ words_of names → HaveStations names
      → AskFor arguments (transit names (BestPlan usual_budget))
  -- `transit TASK CPM LDM STATION NEXT BUDGET`
  transit_within : (names : FlightNames) (budget : ℕ) → arguments ≡ codes "transit" ∷ (words_of names ++ number_text budget ∷ []) → HaveStations names
      → 1 ≤ budget → budget ≤ greatest_budget → AskFor arguments (transit names (BestPlan budget))
  -- `transittask TASK CPM LDM STATION NEXT`
  transit_task : (names : FlightNames) → arguments ≡ codes "transittask" ∷ words_of names → HaveStations names
      → AskFor arguments (transit names TaskAround)
  -- `gen NUMBER`
  generate_load : (number : ℕ) → arguments ≡ codes "gen" ∷ number_text number ∷ [] → number < 2 ^ 32 → AskFor arguments (generate number)

-- the arguments are a command for the job; none of them begins with a minus
pub record IsCommand (arguments : List (List ℕ)) (job : Job) : Type 0 where
  pub form : AskFor arguments job
  pub plain : All (λ argument. BeginsWithMinus argument → ⊥) arguments

-- the arguments are not a command
abbrev pub AreInvalid : List (List ℕ) → Type 0
AreInvalid arguments = (job : Job) → IsCommand arguments job → ⊥
