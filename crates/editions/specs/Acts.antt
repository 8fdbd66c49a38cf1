-- what is written down of a request
use Rattle.std.specs.Prelude.{◌≡◌, ◌↔◌, ℕ, List, Bool, true, false, IsTrue, Option, Some}
use Rattle.arrayvec.specs.ArrayVec.{ArrayVec}
use Rattle.certificate.specs.Evidence.{claimed}
use Rattle.hold_limits.specs.Placement.{IsBest}
use Rattle.aircraft_file.specs.Craft.{Craft}
use Rattle.flight_state.specs.declared.state.FlightState.{FlightState}
use Rattle.flight_history.specs.declared.entry.Act.{Act}
use Rattle.flight_history.specs.declared.entry.Act.TheVariants as act
use Rattle.flight_history.specs.declared.request.Request.{Request}
use Rattle.flight_history.specs.declared.request.Request.TheVariants as asked
use Rattle.flight_history.specs.Verdict.{IsTaskFor}
pub use Rattle.flight_history.specs.Asking.{key_asked, IsPartWithin, IsWithinLimits}

-- what a request asked, where this says whether its plan is for the flight's effective figures. The path of a plan is the
-- best one for the task that it was made for
abbrev pub IsActWith : Bool → Request → Act → Type 0
IsActWith same (asked.NewFlight leg) a = a ≡ act.NewFlight leg
IsActWith same (asked.Set key edition told) a = a ≡ act.Set edition told
IsActWith same (asked.Take key edition) a = a ≡ act.Take edition
IsActWith same (asked.Install key edition plan) a =
    (path : ArrayVec ℕ) × (claimed plan.certificate.claim ≡ Some path.items) × IsBest plan.task path.items × (a ≡ act.Install edition path same)
IsActWith same (asked.InstallBest key edition plan) a =
    (path : ArrayVec ℕ) × (path.items ≡ plan.path) × IsBest plan.task path.items × (a ≡ act.Install edition path same)
IsActWith same (asked.Release key edition) a = a ≡ act.Release edition
IsActWith same (asked.Late key edition change) a = a ≡ act.Late edition change
IsActWith same (asked.Reopen key edition) a = a ≡ act.Reopen edition
IsActWith same (asked.Depart key edition) a = a ≡ act.Depart edition
IsActWith same (asked.Show key what) a = a ≡ act.Show what

-- the request has a plan for the task of the flight's effective figures
abbrev pub HasPlanOf : List Craft → Option FlightState → Request → Type 0
HasPlanOf fleet (Some s) (asked.Install key edition plan) = IsTaskFor fleet s plan.task
HasPlanOf fleet (Some s) (asked.InstallBest key edition plan) = IsTaskFor fleet s plan.task
HasPlanOf fleet _ _ = ⊥

-- what is written down of a request about a flight, or where none of its key is there
pub record IsActOf (fleet : List Craft) (s : Option FlightState) (request : Request) (a : Act) : Type 0 where
  pub same : Bool
  pub exactly : IsTrue same ↔ HasPlanOf fleet s request
  pub asks : IsActWith same request a

-- the act leaves the effective figures of its flight, and so its task, as they are
abbrev pub keeps_figures : Act → Bool
keeps_figures (act.NewFlight leg) = false
keeps_figures (act.Set edition told) = false
keeps_figures (act.Late edition change) = false
keeps_figures _ = true
