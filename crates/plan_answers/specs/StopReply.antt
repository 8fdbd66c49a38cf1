-- What is read and searched of loads over several sectors.
use Rattle.std.specs.Prelude.{◌≡◌, ℕ, ◌<◌, ◌≤◌, List, length, All}
use Rattle.certificate.specs.Good.{AreAtMost}
use Rattle.path_search.specs.Promising.{AreMoreThan}
use Rattle.placer.specs.AnswerText.{budget_text}
use Rattle.stop_tasks.specs.Stops.{Stops}
use Rattle.stop_tasks.specs.StopFaults.{AreLawfulStops}
use Rattle.stop_tasks.specs.StopPaths.{IsStopBest, IsStopNear}
use Rattle.stop_text.specs.StopFile.{StopFile, Spells, sectors_of, stops_of_file}
use Rattle.stop_text.specs.StopRefusals.{HasNoFault, IsRefusedStops}
use Rattle.stop_text.specs.declared.fault.StopTextFault.{StopTextFault}
use Rattle.stop_placer.specs.StopAnswers.{HasNoStopPath}
use Rattle.stop_answer.specs.AnswerText.{stop_plan_text, none_text}
use Rattle.task_answers.specs.declared.reply.Outcome.{Outcome}
use Rattle.task_answers.specs.declared.reply.Outcome.TheVariants.{Done, NothingFits, OverBudget}
use Rattle.plan_answers.specs.ReplyText.{long_text, IsStopFaultLine}
use Rattle.task_answers.specs.Limits.{longest_task}

-- the bytes of a file are not too many, and spell this lawful load of lawful tasks
pub record IsStopsIn (bytes : List ℕ) (t : Stops) : Type 0 where
  pub short : length bytes ≤ longest_task
  pub file : StopFile
  pub spelled : Spells bytes file
  pub tasks : All HasNoFault (sectors_of file)
  pub is : t ≡ stops_of_file file
  pub lawful : AreLawfulStops t

-- the bytes of a file with a load over several sectors are refused with this line
pub data IsStopRefusal (bytes : List ℕ) : List ℕ → Type 0 where
  -- they are too many
  too_long : longest_task < length bytes → IsStopRefusal bytes long_text
  -- they spell no lawful load: this is their first fault
  no_load : (fault : StopTextFault) (line : List ℕ) → length bytes ≤ longest_task → IsRefusedStops bytes fault → IsStopFaultLine fault line
      → IsStopRefusal bytes line

-- the placement of a load over several sectors by a search with this budget: an outcome and its text
pub data IsStopPlacing (t : Stops) (budget : ℕ) : Outcome → List ℕ → Type 0 where
  -- the best plan, and no more prefixes are near than the budget
  plan : (path : List ℕ) → IsStopBest t path → AreAtMost (IsStopNear t) budget → IsStopPlacing t budget Done (stop_plan_text t path)
  -- nothing fits: no path is admissible, and no more prefixes are near than the budget
  nothing_fits : HasNoStopPath t → AreAtMost (IsStopNear t) budget → IsStopPlacing t budget NothingFits none_text
  -- more prefixes are near than the budget
  over_budget : AreMoreThan (IsStopNear t) budget → IsStopPlacing t budget OverBudget (budget_text budget)
