-- the flight that a row stands for, with the aircraft of a fleet
use Rattle.std.specs.Prelude.{◌≡◌, ℕ, ◌+◌, ◌<◌, ◌≤◌, min, List, [], length, map, find, All, bytes_eq, Option, Some, None, option_map, IfSome}
use Rattle.arrayvec.specs.ArrayVec.{ArrayVec}
use Rattle.hold_parts.specs.declared.parts.Position.{Position}
use Rattle.hold_limits.specs.Layout.{name_at}
use Rattle.aircraft_file.specs.Craft.{Craft}
use Rattle.trim.specs.declared.rules.Rule.{Rule}
use Rattle.trim.specs.Laws.{plan_rules}
use Rattle.trim.specs.Refusals.{CanBeWeighed}
use Rattle.trim.specs.Rules.{all_rules, Keeps}
use Rattle.flight_state.specs.Effective.{effective, KeepsLimits}
use Rattle.flight_state.specs.declared.leg.Leg.{Leg}
use Rattle.flight_state.specs.declared.state.Stage.{Stage}
use Rattle.flight_state.specs.declared.state.Stage.TheVariants.{Working, Planned, Released, Departed}
use Rattle.flight_state.specs.declared.state.FlightState.{FlightState}
use Rattle.flight_row.specs.declared.row.Version.{Version}
use Rattle.flight_row.specs.declared.row.Row.{Row}
use Rattle.flight_row.specs.Spelled.{Spells, AreToldReleases, HasPlanFor, HasChangesFor}

-- the aircraft of a leg: the first of the fleet with its registration
abbrev pub aircraft_of : List Craft → Leg → Option Craft
aircraft_of fleet leg = find (λ (a : Craft). bytes_eq a.registration leg.registration) fleet

-- the positions with these numbers have these names
pub record AreNamed (a : Craft) (names : List (List ℕ)) (path : List ℕ) : Type 0 where
  pub known : All (λ q. q < length a.hold.positions) path
  pub are : names ≡ map (name_at a.hold.positions) path

-- a flight as its row states it, with this plan
abbrev pub state_with : Row → Option (ArrayVec ℕ) → FlightState
state_with row plan = record {
  leg = row.leg;
  edition = row.edition;
  stage = row.stage;
  base = row.base;
  plan = plan;
  lmcs = row.lmcs;
  releases = row.releases;
}

-- The rule on a plan that no longer holds --------------------------------------------------------

-- the rules that a plan has to keep when a flight is loaded: those on the hold and on the envelopes, and every rule where the
-- flight is released
abbrev pub rules_due : Stage → List Rule
rules_due Working = plan_rules
rules_due Planned = plan_rules
rules_due Released = all_rules
rules_due Departed = plan_rules

-- The plan of a flight still holds: it has a position for each container, the figures with the late changes have masses and
-- indices, and the rules are kept that are due.
pub record StillHolds (a : Craft) (s : FlightState) (path : List ℕ) : Type 0 where
  pub complete : length path ≡ length s.base.containers
  pub weighed : CanBeWeighed a (effective s)
  pub kept : All (Keeps a (effective s) path) (rules_due s.stage)

-- a flight in work again: its late changes are folded into its figures, and its edition is one higher
abbrev pub in_work_again : FlightState → FlightState
in_work_again s = record s {
  edition = min (s.edition + 1) 1000000000;
  stage = Working;
  base = effective s;
  plan = None;
  lmcs = [];
}

-- a flight whose plan is dropped: one that was planned or released is in work again, one that has departed stays departed
abbrev pub without_plan : Stage → FlightState → FlightState
without_plan Working s = in_work_again s
without_plan Planned s = in_work_again s
without_plan Released s = in_work_again s
without_plan Departed s = record s { plan = None }

-- the row has a plan that names positions, and that still holds
pub record HasPlan (a : Craft) (row : Row) (plan : ArrayVec ℕ) : Type 0 where
  pub names : List (List ℕ)
  pub told : row.plan ≡ Some names
  pub named : AreNamed a names plan.items
  pub holds : StillHolds a (state_with row (Some plan)) plan.items

-- the flight that a row stands for: one without a plan, one whose plan still holds, or one whose plan is dropped
pub data IsLoaded (a : Craft) (row : Row) : FlightState → Type 0 where
  unplanned : row.plan ≡ None → IsLoaded a row (state_with row None)
  planned : (plan : ArrayVec ℕ) → HasPlan a row plan → IsLoaded a row (state_with row (Some plan))
  dropped : (names : List (List ℕ)) → row.plan ≡ Some names → ((plan : ArrayVec ℕ) → HasPlan a row plan → ⊥)
      → IsLoaded a row (without_plan row.stage (state_with row None))

-- The text --------------------------------------------------------------------------------------

-- the text is a row of the flight, in either version, where its aircraft is in the fleet
pub record Reads (fleet : List Craft) (text : List ℕ) (s : FlightState) : Type 0 where
  pub version : Version
  pub row : Row
  pub spells : Spells version text row
  pub aircraft : Craft
  pub found : aircraft_of fleet row.leg ≡ Some aircraft
  pub loaded : IsLoaded aircraft row s

-- Rows of flights -------------------------------------------------------------------------------

-- the names of the positions of a flight's containers
abbrev pub plan_names : List Position → FlightState → Option (List (List ℕ))
plan_names positions s = option_map (λ (plan : ArrayVec ℕ). map (name_at positions) plan.items) s.plan

-- the row of a flight: its plan names the positions of its aircraft
abbrev pub row_of : Craft → FlightState → Row
row_of a s = record {
  leg = s.leg;
  edition = s.edition;
  stage = s.stage;
  releases = s.releases;
  base = s.base;
  plan = plan_names a.hold.positions s;
  lmcs = s.lmcs;
}

-- the plan of a flight, where it has one, still holds
abbrev pub KeepsPlan : Craft → FlightState → Type 0
KeepsPlan a s = IfSome s.plan (λ (plan : ArrayVec ℕ). StillHolds a s plan.items)

-- A flight has a row where its numbers are within the limits of a row, its plan names positions of its aircraft, and plan, late
-- changes and releases are those that a flight at its stage has.
pub record HasRow (a : Craft) (s : FlightState) : Type 0 where
  pub limits : KeepsLimits s
  pub edition : 1 ≤ s.edition
  pub cockpit : s.base.dry.cockpit ≤ 99
  pub attendants : s.base.dry.attendants ≤ 99
  pub take_off : s.base.regulated.take_off.0 ≤ 1000000
  pub landing : s.base.regulated.landing.0 ≤ 1000000
  pub zones : length s.base.cabin ≤ 16
  pub releases : AreToldReleases s.stage s.releases
  pub plan : HasPlanFor s.stage s.plan
  pub known : IfSome s.plan (λ (plan : ArrayVec ℕ). All (λ q. q < length a.hold.positions) plan.items)
  pub changes : HasChangesFor s.stage s.lmcs
