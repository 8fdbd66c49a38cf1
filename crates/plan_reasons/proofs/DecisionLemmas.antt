-- what a placement by trees says of its task
use Rattle.std.proofs.Common.{◌≡◌, ◌≢◌, ℕ, List, Option, None, Some, refl}
use Rattle.hold_limits.specs.Problem.{Problem}
use Rattle.cert_checker.specs.Claims.{HasNoPlacement}
use Rattle.task_answers.specs.Found.{IsTreePlacingOf}
use Rattle.task_answers.specs.TreeReply.{IsTreePlacing}
use Rattle.task_answers.specs.TreeReply.IsTreePlacing.{plan, nothing_fits, near_plan, nothing_near, undecided}
use Rattle.task_answers.specs.declared.reply.Outcome.{Outcome}
use Rattle.task_answers.specs.declared.reply.Outcome.TheVariants.{Done, NothingFits}
use Rattle.plan_reasons.specs.Decisions.{HasPlan, IsOpen}

module _ (t : Problem) (looks : ℕ) where
  -- a plan is there
  pub done-plan : (path : Option (List ℕ)) (outcome : Outcome) (text : List ℕ) → IsTreePlacingOf t looks path outcome text → outcome ≡ Done → HasPlan t
  done-plan None outcome text is done = absurd (is.has_path done)
  done-plan (Some path) outcome text is done = (path, is.has_path.1.admissible)

  -- none is
  pub none-placed : (outcome : Outcome) (text : List ℕ) → IsTreePlacing t looks outcome text → outcome ≡ NothingFits → HasNoPlacement t
  none-placed _ _ (plan path c best claim is_good back) none = absurd (cc none)
  none-placed _ _ (nothing_fits c nothing claim is_good back) none = nothing
  none-placed _ _ (near_plan path c best claim evidence back) none = absurd (cc none)
  none-placed _ _ (nothing_near c nothing claim evidence back) none = nothing
  none-placed _ _ (undecided more) none = absurd (cc none)

  -- that was not decided
  pub open-placed : (outcome : Outcome) (text : List ℕ) → IsTreePlacing t looks outcome text → outcome ≢ Done → outcome ≢ NothingFits → IsOpen t looks
  open-placed _ _ (plan path c best claim is_good back) done none = absurd (done refl)
  open-placed _ _ (nothing_fits c nothing claim is_good back) done none = absurd (none refl)
  open-placed _ _ (near_plan path c best claim evidence back) done none = absurd (done refl)
  open-placed _ _ (nothing_near c nothing claim evidence back) done none = absurd (none refl)
  open-placed _ _ (undecided more) done none = more
