-- What is answered about a flight in transit.
use Rattle.std.specs.Prelude.{◌≡◌, ◌↔◌, ℕ, List, ◌++◌, Some, None, All, map}
use Rattle.hold_limits.specs.Faults.{hold_fault, task_fault}
use Rattle.hold_limits.specs.Placement.{IsBest, IsAdmissible, hold_index}
use Rattle.problem_text.specs.TaskText.{Spells}
use Rattle.certificate.specs.Evidence.{claimed}
use Rattle.certificate.specs.declared.parts.Certificate.{Certificate}
use Rattle.placer.specs.AnswerText.{evidence_text}
use Rattle.ldm_cpm.specs.Messages.{IsCpm, IsSpelledHeading, IsSpelledPlacing}
use Rattle.ldm_cpm.specs.Reading.{heading_of, placing_said}
use Rattle.transit_tasks.specs.Joined.{IsJoinedAdmissible, joined_index}
use Rattle.transit_tasks.specs.TransitFaults.{transit_fault}
use Rattle.transit_messages.specs.Onward.{onward_message, onward_placings, Carries, Keeps}
use Rattle.task_answers.specs.declared.reply.Outcome.{Outcome}
use Rattle.task_answers.specs.declared.reply.Outcome.TheVariants.{Done, NothingFits, OverBudget}
use Rattle.task_answers.specs.NearReply.{IsPlacing}
use Rattle.transit_answers.specs.Flights.{Transit, around}
use Rattle.transit_answers.specs.declared.flight.InTransit.{InTransit}
use Rattle.transit_answers.specs.declared.answers.TransitQuestion.{TransitQuestion}
use Rattle.transit_answers.specs.declared.answers.TransitQuestion.TheVariants.{BestPlan, TaskAround}

-- Flights as the program keeps them -------------------------------------------------------------

abbrev pub transit_of : InTransit → Transit
transit_of flight =
    record { heading = heading_of flight.head.now; task = flight.task.now; stay = map placing_said flight.stay.items }

-- a path is admissible for the task around what stays exactly where it is admissible joined with that, at the same hold
-- index
pub record IsJoined (flight : Transit) : Type 0 where
  pub admissible : (path : List ℕ) → IsAdmissible (around flight) path ↔ IsJoinedAdmissible flight.task flight.stay path
  pub index : (path : List ℕ) → hold_index (around flight) path ≡ joined_index flight.task flight.stay path

-- what stays can, and the task that is kept is the one around it
pub record IsKept (kept : InTransit) : Type 0 where
  pub heading : IsSpelledHeading (transit_of kept).heading
  pub spelled : All IsSpelledPlacing (transit_of kept).stay
  pub right : transit_fault (transit_of kept).task (transit_of kept).stay ≡ None
  pub task : kept.around ≡ around (transit_of kept)
  pub joined : IsJoined (transit_of kept)

-- Answers ---------------------------------------------------------------------------------------

-- the text is the message with which the flight goes on to the next station: all that the path places, all that the task
-- has loaded and all that stays is in it
pub record IsOnward (flight : Transit) (next path text : List ℕ) : Type 0 where
  pub is : IsCpm text (onward_message flight.heading next flight.stay flight.task path)
  pub carries : Carries next flight.task path (onward_placings next flight.stay flight.task path)
  pub keeps : Keeps flight.stay (onward_placings next flight.stay flight.task path)

-- the placement of the task around what stays, with this budget: an outcome and its text
pub data IsTransitPlacing (flight : Transit) (next : List ℕ) (budget : ℕ) : Outcome → List ℕ → Type 0 where
  -- the best plan, and behind it the message with which the flight goes on
  plan : (path : List ℕ) (c : Certificate) (message : List ℕ) → IsBest (around flight) path → claimed c.claim ≡ Some path
      → IsPlacing (around flight) budget Done (evidence_text (around flight) c) → IsOnward flight next path message
      → IsTransitPlacing flight next budget Done (evidence_text (around flight) c ++ message)
  -- nothing fits
  nothing_fits : (text : List ℕ) → IsPlacing (around flight) budget NothingFits text → IsTransitPlacing flight next budget NothingFits text
  -- the budget is spent
  over_budget : (text : List ℕ) → IsPlacing (around flight) budget OverBudget text → IsTransitPlacing flight next budget OverBudget text

-- the text of the task around what stays: read, it is that task, which is lawful
pub record IsTextAround (flight : Transit) (text : List ℕ) : Type 0 where
  pub spelled : Spells text (around flight)
  pub hold : hold_fault (around flight).hold ≡ None
  pub task : task_fault (around flight) ≡ None

-- the answer to a question: a placement, or the task around what stays
pub data IsAnswerAbout (flight : Transit) (next : List ℕ) : TransitQuestion → Outcome → List ℕ → Type 0 where
  placed : (budget : ℕ) (outcome : Outcome) (text : List ℕ) → IsTransitPlacing flight next budget outcome text
      → IsAnswerAbout flight next (BestPlan budget) outcome text
  made : (text : List ℕ) → IsTextAround flight text → IsAnswerAbout flight next TaskAround Done text

-- the answer to a question about a flight in transit, whose plans are those of the offer joined with what stays
pub record IsTransitAnswer (flight : Transit) (next : List ℕ) (question : TransitQuestion) (outcome : Outcome) (text : List ℕ) : Type 0 where
  pub joined : IsJoined flight
  pub answer : IsAnswerAbout flight next question outcome text
