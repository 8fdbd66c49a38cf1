-- searches for a plan of the hold, and what they find
use Rattle.std.specs.Prelude.{◌≡◌, ℕ, List, Option, None, Some, option_map}
use Rattle.hold_limits.specs.Problem.{Problem}
use Rattle.certificate.specs.Evidence.{claimed}
use Rattle.best_plan.specs.Planned.{planned}
use Rattle.placer.specs.Answers.{IsAnswerTo}
use Rattle.placer.specs.AnswerText.{answer_text}
use Rattle.placer.specs.declared.answer.Answer.{Answer}
use Rattle.placer.specs.declared.answer.Answer.TheVariants.{Best, NoneFits, Budget}
use Rattle.task_answers.specs.Found.{IsBestAnswer}
use Rattle.flight_history.specs.declared.request.Request.{Request}
use Rattle.flight_history.specs.declared.request.Request.TheVariants.{Install, InstallBest}
use Rattle.desk_service.specs.declared.searches.FoundPlan.{FoundPlan}
use Rattle.desk_service.specs.declared.searches.FoundPlan.TheVariants as found
use Rattle.desk_service.specs.declared.searches.Search.{Search}
use Rattle.desk_service.specs.declared.searches.Search.TheVariants.{Within, ByTrees}

-- the plan that an answer of the best-first search has, if it has one
abbrev pub plan_in : Answer → Option FoundPlan
plan_in (Best proven) = Some (found.Certified proven)
plan_in (NoneFits no_plan) = None
plan_in (Budget n) = None

-- the plan with the best path of a task
abbrev pub plan_by : Problem → List ℕ → FoundPlan
plan_by task path = found.Best (planned task path)

-- what a search finds for a task: a plan or none, and the text that answers it
abbrev pub Finds : Search → Problem → Option FoundPlan → List ℕ → Type 0
Finds (Within budget) task plan text =
    (answer : Answer) × IsAnswerTo task budget answer × (plan ≡ plan_in answer) × (text ≡ answer_text task answer)
Finds (ByTrees looks) task plan text =
    (path : Option (List ℕ)) × IsBestAnswer task looks path text × (plan ≡ option_map (plan_by task) path)

-- the search finds a plan for the task
pub record FindsPlan (search : Search) (task : Problem) : Type 0 where
  pub plan : FoundPlan
  pub text : List ℕ
  pub finds : Finds search task (Some plan) text

-- the path of a plan that was found
abbrev pub path_of : FoundPlan → Option (List ℕ)
path_of (found.Certified proven) = claimed proven.certificate.claim
path_of (found.Best plan) = Some plan.path

-- the request that installs it
abbrev pub install_of : List ℕ → ℕ → FoundPlan → Request
install_of key edition (found.Certified proven) = Install key edition proven
install_of key edition (found.Best plan) = InstallBest key edition plan
