-- what a flight at a stage has
use Rattle.std.proofs.Common.{ℕ, ◌≤◌, Some, None, refl, arith}
use Rattle.flight_state.specs.declared.state.Stage.{Stage}
use Rattle.flight_state.specs.declared.state.Stage.TheVariants.{Working, Planned, Released, Departed}
use Rattle.flight_row.specs.declared.row.Version.{Version}
use Rattle.flight_row.specs.declared.row.Version.TheVariants.{One, Two}
use Rattle.flight_row.specs.Spelled.{IsReleasedAtLeastOnce, AreReleases, AreToldReleases, first_releases, HasPlanFor}

-- how often it was released

pub least-once : (stage : Stage) (releases : ℕ) → first_releases stage ≤ releases → IsReleasedAtLeastOnce stage releases
least-once Working releases least = tt
least-once Planned releases least = tt
least-once Released releases least = least
least-once Departed releases least = least

pub once-least : (stage : Stage) (releases : ℕ) → IsReleasedAtLeastOnce stage releases → first_releases stage ≤ releases
once-least Working releases once = omega arith
once-least Planned releases once = omega arith
once-least Released releases once = once
once-least Departed releases once = once

first-few : (stage : Stage) → first_releases stage ≤ 1
first-few Working = omega arith
first-few Planned = omega arith
first-few Released = omega arith
first-few Departed = omega arith

-- as often as the row tells, or as it counts without telling
pub told-releases : (version : Version) (stage : Stage) (releases : ℕ) → AreReleases version stage releases → AreToldReleases stage releases
told-releases One stage releases e =
    let few = first-few stage in
    record { few = omega arith; some = least-once stage releases (omega arith) }
told-releases Two stage releases told = told

-- whether it has a plan does not depend on what the plan is

pub plan-for-some : {X Y : Type 0} (stage : Stage) (x : X) (y : Y) → HasPlanFor stage (Some x) → HasPlanFor stage (Some y)
plan-for-some Working x y e = absurd (cc (e))
plan-for-some Planned x y e = refl
plan-for-some Released x y e = refl
plan-for-some Departed x y e = tt

pub plan-for-none : (X Y : Type 0) (stage : Stage) → HasPlanFor {X = X} stage None → HasPlanFor {X = Y} stage None
plan-for-none X Y Working e = refl
plan-for-none X Y Planned e = absurd (cc (e))
plan-for-none X Y Released e = absurd (cc (e))
plan-for-none X Y Departed e = tt
