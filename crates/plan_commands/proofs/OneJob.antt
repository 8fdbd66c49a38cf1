-- Arguments ask for one job.
use Rattle.std.proofs.Common.{◌≡◌, ℕ, List, [], ◌∷◌, refl, sym, ap, ◌∙◌, bytes_eq, if◌then◌else◌}
use Rattle.std.specs.Prelude.{codes}
use Rattle.std.specs.Str.Parse.{digits_value}
use Rattle.mass_units.proofs.SpellingLemmas.{digits_value-number_text}
use Rattle.mass_units.specs.Spelling.{number_text}
use Rattle.plan_commands.specs.Arguments.{FlightNames, Job, AskFor, usual_looks, usual_stop_budget}
use Rattle.plan_answers.specs.Limits.{usual_budget, greatest_priced_budget}
use Rattle.plan_commands.specs.Arguments.Job.{place, check, best, why, check_any, priced, check_priced, stops, transit, generate}
use Rattle.plan_commands.specs.Arguments.AskFor.{place_usually, place_within, check_certificate, best_usually, best_within, why_usually, why_within, check_best, priced_usually, priced_within, check_prices, stops_usually, stops_within, transit_usually, transit_within, transit_task, generate_load}
use Rattle.transit_answers.specs.declared.answers.TransitQuestion.TheVariants.{BestPlan, TaskAround}

-- the job that a name and one operand ask for, if they ask for one
one_operand : (name operand : List ℕ) → Job
one_operand name operand =
    if bytes_eq name (codes "place") then place operand usual_budget
    else if bytes_eq name (codes "best") then best operand usual_looks
    else if bytes_eq name (codes "why") then why operand usual_looks
    else if bytes_eq name (codes "priced") then priced operand greatest_priced_budget
    else if bytes_eq name (codes "stops") then stops operand usual_stop_budget
    else generate (digits_value 10 operand)

-- the same of a name and two operands
two_operands : (name task other : List ℕ) → Job
two_operands name task other =
    if bytes_eq name (codes "place") then place task (digits_value 10 other)
    else if bytes_eq name (codes "best") then best task (digits_value 10 other)
    else if bytes_eq name (codes "why") then why task (digits_value 10 other)
    else if bytes_eq name (codes "priced") then priced task (digits_value 10 other)
    else if bytes_eq name (codes "stops") then stops task (digits_value 10 other)
    else if bytes_eq name (codes "check") then check task other
    else if bytes_eq name (codes "bestcheck") then check_any task other
    else check_priced task other

flight_names : (task cpm ldm station next : List ℕ) → FlightNames
flight_names task cpm ldm station next = record { task = task; cpm = cpm; ldm = ldm; station = station; next = next }

-- the same of a name and five operands
five_operands : (name : List ℕ) (names : FlightNames) → Job
five_operands name names = if bytes_eq name (codes "transit") then transit names (BestPlan usual_budget) else transit names TaskAround

job_in : List (List ℕ) → Job
job_in (name ∷ operand ∷ []) = one_operand name operand
job_in (name ∷ task ∷ other ∷ []) = two_operands name task other
job_in (name ∷ task ∷ cpm ∷ ldm ∷ station ∷ next ∷ []) = five_operands name (flight_names task cpm ldm station next)
job_in (name ∷ task ∷ cpm ∷ ldm ∷ station ∷ next ∷ budget ∷ []) = transit (flight_names task cpm ldm station next) (BestPlan (digits_value 10 budget))
job_in others = generate 0

read_number : (make : ℕ → Job) (n : ℕ) → make (digits_value 10 (number_text n)) ≡ make n
read_number make n = ap make (digits_value-number_text n)

asked-job : (arguments : List (List ℕ)) (job : Job) → AskFor arguments job → job_in arguments ≡ job
unfolding job_in one_operand two_operands five_operands flight_names
asked-job arguments _ (place_usually task is) = rw is refl
asked-job arguments _ (place_within task n is low high) = rw is (read_number (place task) n)
asked-job arguments _ (check_certificate task certificate is) = rw is refl
asked-job arguments _ (best_usually task is) = rw is refl
asked-job arguments _ (best_within task n is low high) = rw is (read_number (best task) n)
asked-job arguments _ (why_usually task is) = rw is refl
asked-job arguments _ (why_within task n is low high) = rw is (read_number (why task) n)
asked-job arguments _ (check_best task certificate is) = rw is refl
asked-job arguments _ (priced_usually task is) = rw is refl
asked-job arguments _ (priced_within task n is low high) = rw is (read_number (priced task) n)
asked-job arguments _ (check_prices task certificate is) = rw is refl
asked-job arguments _ (stops_usually file is) = rw is refl
asked-job arguments _ (stops_within file n is low high) = rw is (read_number (stops file) n)
asked-job arguments _ (transit_usually names is stations) = rw is refl
asked-job arguments _ (transit_within names n is stations low high) = rw is (read_number (λ budget. transit names (BestPlan budget)) n)
asked-job arguments _ (transit_task names is stations) = rw is refl
asked-job arguments _ (generate_load n is fits) = rw is (read_number generate n)

pub one_form : (arguments : List (List ℕ)) (a b : Job) → AskFor arguments a → AskFor arguments b → a ≡ b
one_form arguments a b first second = sym (asked-job arguments a first) ∙ asked-job arguments b second
