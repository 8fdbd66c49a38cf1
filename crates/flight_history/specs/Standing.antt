-- the standing of a flight, read part by part from the acts of it that were accepted
use Rattle.std.specs.Prelude.{if◌then◌else◌, ℕ, ◌+◌, min, List, [], ◌∷◌, ◌++◌, Bool, true, false, ◌&&◌, Option, None, Some, fold, unwrap_or, count_by, is_some, option_map}
use Rattle.std.specs.List.{list_any, filter_map}
use Rattle.payload.specs.declared.figures.ZoneCount.{ZoneCount}
use Rattle.hold_parts.specs.declared.parts.Item.{Item}
use Rattle.arrayvec.specs.ArrayVec.{ArrayVec}
use Rattle.aircraft_file.specs.Craft.{Craft}
use Rattle.trim.specs.declared.figures.Dry.{Dry}
use Rattle.trim.specs.declared.figures.Fuel.{Fuel}
use Rattle.trim.specs.declared.figures.Regulated.{Regulated}
use Rattle.trim.specs.declared.figures.LooseFigure.{LooseFigure}
use Rattle.trim.specs.declared.figures.Figures.{Figures}
use Rattle.flight_state.specs.declared.change.Lmc.{Lmc}
use Rattle.flight_state.specs.declared.change.Lmc.TheVariants as change
use Rattle.flight_state.specs.declared.state.FlightState.{FlightState}
use Rattle.flight_state.specs.declared.state.Stage.{Stage}
use Rattle.flight_state.specs.declared.state.Stage.TheVariants.{Working, Planned, Released, Departed}
use Rattle.flight_state.specs.Effective.{with_passengers, with_load, effective}
use Rattle.flight_history.specs.declared.entry.Act.{Act}
use Rattle.flight_history.specs.declared.entry.Act.TheVariants.{NewFlight, Set, Install, Release, Late, Reopen, Depart}
use Rattle.flight_history.specs.declared.request.FigurePart.TheVariants as part
use Rattle.flight_history.specs.LastOnes.{last_told, since, up_to}
use Rattle.flight_row.specs.Loading.{aircraft_of}
use Rattle.flight_history.specs.Fleet.{new_flight}

-- What acts say of the parts --------------------------------------------------------------------

-- the acts that raise the edition
abbrev pub raises_edition : Act → Bool
raises_edition (Set edition told) = true
raises_edition (Late edition lmc) = true
raises_edition (Reopen edition) = true
raises_edition _ = false

-- the acts that fold the late changes into the figures
abbrev pub folds_lates : Act → Bool
folds_lates (NewFlight leg) = true
folds_lates (Set edition told) = true
folds_lates (Install edition path same) = true
folds_lates (Reopen edition) = true
folds_lates _ = false

-- the stage that an act leads to
abbrev pub stage_by : Act → Option Stage
stage_by (NewFlight leg) = Some Working
stage_by (Set edition told) = Some Working
stage_by (Install edition path same) = Some Planned
stage_by (Release edition) = Some Released
stage_by (Reopen edition) = Some Working
stage_by (Depart edition) = Some Departed
stage_by _ = None

-- the plan, or that there is none, that an act leads to
abbrev pub plan_by : Act → Option (Option (ArrayVec ℕ))
plan_by (NewFlight leg) = Some None
plan_by (Set edition told) = Some None
plan_by (Install edition path same) = Some (Some path)
plan_by (Reopen edition) = Some None
plan_by _ = None

-- what a Set tells of each part of the figures
abbrev pub dry_by : Act → Option Dry
dry_by (Set edition (part.Dry dry)) = Some dry
dry_by _ = None

abbrev pub fuel_by : Act → Option Fuel
fuel_by (Set edition (part.Fuel fuel)) = Some fuel
fuel_by _ = None

abbrev pub limits_by : Act → Option Regulated
limits_by (Set edition (part.Limits limits)) = Some limits
limits_by _ = None

abbrev pub cabin_by : Act → Option (List ZoneCount)
cabin_by (Set edition (part.Cabin cabin)) = Some cabin
cabin_by _ = None

abbrev pub containers_by : Act → Option (List Item)
containers_by (Set edition (part.Containers containers)) = Some containers
containers_by _ = None

abbrev pub loose_by : Act → Option (List LooseFigure)
loose_by (Set edition (part.Loose loose)) = Some loose
loose_by _ = None

abbrev pub sets_cabin : Act → Bool
sets_cabin act = is_some (cabin_by act)

abbrev pub sets_loose : Act → Bool
sets_loose act = is_some (loose_by act)

-- the late changes among acts, in order
abbrev pub late_by : Act → Option Lmc
late_by (Late edition lmc) = Some lmc
late_by _ = None

abbrev pub lates_in : List Act → List Lmc
lates_in acts = filter_map late_by acts

-- what a late change makes of the cabin, and of the loose load
abbrev pub cabin_with : List ZoneCount → Lmc → List ZoneCount
cabin_with cabin (change.Cabin zone adults children infants) = with_passengers zone adults children infants cabin
cabin_with cabin (change.Loose position mass pieces) = cabin

abbrev pub loose_with : List LooseFigure → Lmc → List LooseFigure
loose_with loose (change.Cabin zone adults children infants) = loose
loose_with loose (change.Loose position mass pieces) = with_load position mass pieces loose

abbrev pub is_release : Act → Bool
is_release (Release edition) = true
is_release _ = false

abbrev pub is_planned : Stage → Bool
is_planned Planned = true
is_planned _ = false

-- The parts, of a flight that began so, after these acts ------------------------------------------

abbrev pub edition_after : FlightState → List Act → ℕ
edition_after o acts = o.edition + count_by raises_edition acts

abbrev pub stage_after : FlightState → List Act → Stage
stage_after o acts = unwrap_or (last_told stage_by acts) o.stage

abbrev pub plan_after : FlightState → List Act → Option (ArrayVec ℕ)
plan_after o acts = unwrap_or (last_told plan_by acts) o.plan

-- Each part of the effective figures is what its last Set tells, and what the flight began with where there is none. Late
-- changes change the cabin and the loose load alone: those after that Set are added to it in order
abbrev pub figures_after : FlightState → List Act → Figures
figures_after o acts = record {
  dry = unwrap_or (last_told dry_by acts) (effective o).dry;
  fuel = unwrap_or (last_told fuel_by acts) (effective o).fuel;
  regulated = unwrap_or (last_told limits_by acts) (effective o).regulated;
  cabin = fold cabin_with (unwrap_or (last_told cabin_by acts) (effective o).cabin) (lates_in (since sets_cabin acts));
  containers = unwrap_or (last_told containers_by acts) (effective o).containers;
  loose = fold loose_with (unwrap_or (last_told loose_by acts) (effective o).loose) (lates_in (since sets_loose acts));
}

-- the late changes that no act has folded in
abbrev pub lates_after : FlightState → List Act → List Lmc
lates_after o acts = (if list_any folds_lates acts then [] else o.lmcs) ++ lates_in (since folds_lates acts)

-- the figures just after the last act that folded some in
abbrev pub base_after : FlightState → List Act → Figures
base_after o acts = if list_any folds_lates acts then figures_after o (up_to folds_lates acts) else o.base

-- how many of the acts release a flight that is planned, after those before
abbrev pub releases_among : FlightState → List Act → List Act → ℕ
releases_among o before [] = 0
releases_among o before (act ∷ acts) =
    (if is_release act && is_planned (stage_after o before) then 1 else 0) + releases_among o (before ++ act ∷ []) acts

-- how often the flight was released, counted up to 1,000,000,000
abbrev pub releases_after : FlightState → List Act → ℕ
releases_after o acts = min (o.releases + releases_among o [] acts) 1000000000

abbrev pub standing_from : FlightState → List Act → FlightState
standing_from o acts = record {
  leg = o.leg;
  edition = edition_after o acts;
  stage = stage_after o acts;
  base = base_after o acts;
  plan = plan_after o acts;
  lmcs = lates_after o acts;
  releases = releases_after o acts;
}

-- what a flight began as: as the office opened with it, or as its first act opened it
abbrev pub beginning : List Craft → Option FlightState → List Act → Option FlightState
beginning fleet (Some o) acts = Some o
beginning fleet None (NewFlight leg ∷ acts) = option_map (λ a. new_flight a leg) (aircraft_of fleet leg)
beginning fleet None _ = None

-- the standing of a flight after these acts, where it is there
abbrev pub standing : List Craft → Option FlightState → List Act → Option FlightState
standing fleet opened acts = option_map (λ o. standing_from o acts) (beginning fleet opened acts)
