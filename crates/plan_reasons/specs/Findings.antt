-- what is found out of a limit
use Rattle.std.specs.Prelude.{◌≡◌, ℕ, ◌≤◌, ◌<◌, true, false, List, map, All}
use Rattle.hold_limits.specs.Problem.{Problem}
use Rattle.cert_checker.specs.Claims.{HasNoPlacement}
use Rattle.plan_reasons.specs.Decisions.{HasPlan, IsOpen}
use Rattle.plan_reasons.specs.Limits.{freed, has_number, loosened, slack}
use Rattle.plan_reasons.specs.declared.finding.Finding.{Finding}
use Rattle.plan_reasons.specs.declared.finding.Finding.TheVariants as found
use Rattle.plan_reasons.specs.declared.finding.Least.{Least}
use Rattle.plan_reasons.specs.declared.finding.Least.TheVariants as least
use Rattle.plan_reasons.specs.declared.finding.TriedLimit.{TriedLimit}
use Rattle.plan_reasons.specs.declared.limit.TaskLimit.{TaskLimit}

-- loosened by so much the limit admits a plan, and by no less
pub record IsLeastStep (t : Problem) (limit : TaskLimit) (step : ℕ) : Type 0 where
  pub within : step ≤ slack t limit
  pub plan : HasPlan (loosened t limit step)
  pub less : (n : ℕ) → n < step → HasNoPlacement (loosened t limit n)

-- whether the task has a plan was not decided, where the limit is loosened by some step
abbrev pub IsOpenStep : Problem → ℕ → TaskLimit → Type 0
IsOpenStep t looks limit = (step : ℕ) × (step ≤ slack t limit) × IsOpen (loosened t limit step) looks

-- by how little a limit has to be loosened
abbrev pub IsLeast : Problem → ℕ → TaskLimit → Least → Type 0
IsLeast t looks limit least.Whole = has_number limit ≡ false
IsLeast t looks limit (least.Step step) = (has_number limit ≡ true) × IsLeastStep t limit step
IsLeast t looks limit least.Open = (has_number limit ≡ true) × IsOpenStep t looks limit

-- what is found out of a limit: without it there is a plan, or none, or that was not decided
abbrev pub IsFinding : Problem → ℕ → TaskLimit → Finding → Type 0
IsFinding t looks limit (found.Helps step) = HasPlan (freed t limit) × IsLeast t looks limit step
IsFinding t looks limit found.NoHelp = HasNoPlacement (freed t limit)
IsFinding t looks limit found.Open = IsOpen (freed t limit) looks

-- these limits were tried, in their order, and this was found out of each
pub record AreTried (t : Problem) (looks : ℕ) (limits : List TaskLimit) (tried : List TriedLimit) : Type 0 where
  pub all : map (λ (it : TriedLimit). it.limit) tried ≡ limits
  pub right : All (λ (it : TriedLimit). IsFinding t looks it.limit it.finding) tried
