-- plans that searches find, and what is written down of their installation
use Rattle.std.proofs.Common.{◌≡◌, ℕ, Bool, List, Option, None, Some, refl, sym, subst}
use Rattle.std.specs.Prelude.{IsSomeAnd, option_map}
use Rattle.std.proofs.lemmas.Option.{same_Some}
use Rattle.arrayvec.specs.ArrayVec.{ArrayVec}
use Rattle.hold_limits.specs.Placement.{IsBest}
use Rattle.hold_limits.specs.Problem.{Problem}
use Rattle.placer.specs.Answers.{IsAnswerTo}
use Rattle.placer.specs.declared.answer.Answer.{Answer}
use Rattle.placer.specs.declared.answer.Answer.TheVariants.{Best, NoneFits, Budget}
use Rattle.task_answers.specs.Found.{IsBestAnswer}
use Rattle.task_answers.proofs.BestLemmas.{answered-plan}
use Rattle.aircraft_file.specs.Craft.{Craft}
use Rattle.flight_state.specs.declared.state.FlightState.{FlightState}
use Rattle.flight_history.specs.declared.entry.Act.{Act}
use Rattle.flight_history.specs.declared.entry.Act.TheVariants as act
use Rattle.flight_history.specs.Asking.{key_asked}
use Rattle.flight_history.specs.Verdict.{IsTaskFor}
use Rattle.editions.specs.Acts.{IsActWith, HasPlanOf}
use Rattle.desk_service.specs.declared.searches.FoundPlan.{FoundPlan}
use Rattle.desk_service.specs.declared.searches.FoundPlan.TheVariants as found
use Rattle.desk_service.specs.declared.searches.Search.{Search}
use Rattle.desk_service.specs.declared.searches.Search.TheVariants.{Within, ByTrees}
use Rattle.desk_service.specs.Searches.{Finds, install_of, path_of, plan_by, plan_in}

-- What is found -----------------------------------------------------------------------------------

-- the task of a plan
abbrev pub task_of : FoundPlan → Problem
task_of (found.Certified proven) = proven.task
task_of (found.Best plan) = plan.task

-- the plan is the best one for the task
pub record IsBestFor (t : Problem) (plan : FoundPlan) : Type 0 where
  pub own : task_of plan ≡ t
  pub path : IsSomeAnd (path_of plan) (IsBest t)

of_answer : (t : Problem) (budget : ℕ) (answer : Answer) (plan : FoundPlan) → IsAnswerTo t budget answer → Some plan ≡ plan_in answer → IsBestFor t plan
of_answer t budget (Best proven) plan a is = subst (IsBestFor t) (sym (same_Some _ _ is)) record { own = a.best; path = a.path }
of_answer t budget (NoneFits no_plan) plan a is = absurd (cc)
of_answer t budget (Budget n) plan a is = absurd (cc)

of_path : (t : Problem) (looks : ℕ) (path : Option (List ℕ)) (text : List ℕ) (plan : FoundPlan) → IsBestAnswer t looks path text → Some plan ≡ option_map (plan_by t) path → IsBestFor t plan
of_path t looks None text plan a is = absurd (cc)
of_path t looks (Some path) text plan a is = subst (IsBestFor t) (sym (same_Some _ _ is)) record { own = refl; path = answered-plan t looks path text a }

-- a plan that a search finds is the best one
pub finds_best : (search : Search) (t : Problem) (plan : FoundPlan) (text : List ℕ) → Finds search t (Some plan) text → IsBestFor t plan
finds_best (Within budget) t plan text f = of_answer t budget f.0 plan f.1 f.2
finds_best (ByTrees looks) t plan text f = of_path t looks f.0 text plan f.1 f.2

-- What is installed -------------------------------------------------------------------------------

pub key_of_install : (key : List ℕ) (edition : ℕ) (plan : FoundPlan) → key_asked (install_of key edition plan) ≡ key
key_of_install key edition (found.Certified proven) = refl
key_of_install key edition (found.Best plan) = refl

-- the act installs a path at the edition
pub record WritesPath (edition : ℕ) (same : Bool) (x : Act) : Type 0 where
  pub path : ArrayVec ℕ
  pub is : x ≡ act.Install edition path same

pub writes_path : (key : List ℕ) (edition : ℕ) (plan : FoundPlan) (same : Bool) (x : Act) → IsActWith same (install_of key edition plan) x → WritesPath edition same x
writes_path key edition (found.Certified proven) same x asks = record { path = asks.0; is = asks.3 }
writes_path key edition (found.Best plan) same x asks = record { path = asks.0; is = asks.3 }

-- a plan for the task of the flight's figures is one that the office takes as such
pub has_plan : (fleet : List Craft) (s : FlightState) (key : List ℕ) (edition : ℕ) (plan : FoundPlan) → IsTaskFor fleet s (task_of plan) → HasPlanOf fleet (Some s) (install_of key edition plan)
has_plan fleet s key edition (found.Certified proven) is = is
has_plan fleet s key edition (found.Best plan) is = is
