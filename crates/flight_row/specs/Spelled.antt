-- which rows have a text
use Rattle.std.specs.Prelude.{◌≡◌, ℕ, ◌≤◌, unsigned_abs, true, List, [], length, All, Option, None, IfSome, IsSome}
use Rattle.mass_units.specs.Spelling.{IsIndex}
use Rattle.hold_parts.specs.Spellings.{IsName, IsUldId}
use Rattle.hold_parts.specs.declared.parts.Item.{Item}
use Rattle.trim.specs.Limits.{HasFewPassengers}
use Rattle.trim.specs.declared.figures.Dry.{Dry}
use Rattle.trim.specs.declared.figures.Fuel.{Fuel}
use Rattle.trim.specs.declared.figures.Regulated.{Regulated}
use Rattle.trim.specs.declared.figures.LooseFigure.{LooseFigure}
use Rattle.trim.specs.declared.figures.Figures.{Figures}
use Rattle.flight_state.specs.Legs.{IsSpelledLeg}
use Rattle.flight_state.specs.Effective.{IsLooseWithin, can_add_all}
use Rattle.flight_state.specs.declared.change.Lmc.{Lmc}
use Rattle.flight_state.specs.declared.change.Lmc.TheVariants.{Cabin, Loose}
use Rattle.flight_state.specs.declared.state.Stage.{Stage}
use Rattle.flight_state.specs.declared.state.Stage.TheVariants.{Working, Planned, Released, Departed}
use Rattle.flight_row.specs.declared.row.Version.{Version}
use Rattle.flight_row.specs.declared.row.Version.TheVariants.{One, Two}
use Rattle.flight_row.specs.declared.row.Row.{Row}
use Rattle.flight_row.specs.RowText.{row_text}

-- The parts -------------------------------------------------------------------------------------

abbrev pub IsEdition : ℕ → Type 0
IsEdition edition = (1 ≤ edition) × (edition ≤ 1000000000)

-- the dry aircraft has 1 to 1,000,000 kg and an index within 10,000 index units, and up to 99 of its crew in each place
pub record IsSpelledDry (dry : Dry) : Type 0 where
  pub some : 1 ≤ dry.mass.0
  pub mass : dry.mass.0 ≤ 1000000
  pub at : IsIndex dry.index.0
  pub cockpit : dry.cockpit ≤ 99
  pub attendants : dry.attendants ≤ 99

-- each mass of fuel has at most 1,000,000 kg, and the trip burns only fuel that is on board
pub record IsSpelledFuel (fuel : Fuel) : Type 0 where
  pub taxi : fuel.taxi.0 ≤ 1000000
  pub take_off : fuel.take_off.0 ≤ 1000000
  pub trip : fuel.trip.0 ≤ 1000000
  pub on_board : fuel.trip.0 ≤ fuel.take_off.0

pub record AreSpelledLimits (limits : Regulated) : Type 0 where
  pub take_off : limits.take_off.0 ≤ 1000000
  pub landing : limits.landing.0 ≤ 1000000

pub record IsSpelledContainer (item : Item) : Type 0 where
  pub id : IsUldId item.id
  pub mass : item.mass.0 ≤ 1000000

pub record IsSpelledLoad (load : LooseFigure) : Type 0 where
  pub name : IsName load.position
  pub within : IsLooseWithin load

-- up to 60 names
pub record IsSpelledPlan (names : List (List ℕ)) : Type 0 where
  pub few : length names ≤ 60
  pub each : All IsName names

-- a change of up to 999 persons, or of up to 1,000,000 kg and 999 pieces
abbrev pub IsSpelledChange : Lmc → Type 0
IsSpelledChange (Cabin zone adults children infants) =
    (1 ≤ zone) × (zone ≤ 16) × (unsigned_abs adults ≤ 999) × (unsigned_abs children ≤ 999) × (unsigned_abs infants ≤ 999)
IsSpelledChange (Loose position mass pieces) =
    IsName position × (unsigned_abs mass ≤ 1000000) × (unsigned_abs pieces ≤ 999)

-- a change of a bulk position names it
abbrev pub IsNamedChange : Lmc → Type 0
IsNamedChange (Cabin zone adults children infants) = Unit {0}
IsNamedChange (Loose position mass pieces) = IsName position

-- the figures before the late changes are within the limits of a row
pub record AreSpelledFigures (f : Figures) : Type 0 where
  pub dry : IsSpelledDry f.dry
  pub fuel : IsSpelledFuel f.fuel
  pub limits : AreSpelledLimits f.regulated
  pub zones : length f.cabin ≤ 16
  pub passengers : All HasFewPassengers f.cabin
  pub few_containers : length f.containers ≤ 64
  pub containers : All IsSpelledContainer f.containers
  pub few_loads : length f.loose ≤ 64
  pub loads : All IsSpelledLoad f.loose

-- What depends on the stage ---------------------------------------------------------------------

-- A row of the first version does not say how often its flight was released: it counts as once where the flight is released or
-- departed. In the second version it is said, and such a flight was released at least once.
abbrev pub IsReleasedAtLeastOnce : Stage → ℕ → Type 0
IsReleasedAtLeastOnce Working releases = Unit {0}
IsReleasedAtLeastOnce Planned releases = Unit {0}
IsReleasedAtLeastOnce Released releases = 1 ≤ releases
IsReleasedAtLeastOnce Departed releases = 1 ≤ releases

abbrev pub first_releases : Stage → ℕ
first_releases Working = 0
first_releases Planned = 0
first_releases Released = 1
first_releases Departed = 1

pub record AreToldReleases (stage : Stage) (releases : ℕ) : Type 0 where
  pub few : releases ≤ 1000000000
  pub some : IsReleasedAtLeastOnce stage releases

abbrev pub AreReleases : Version → Stage → ℕ → Type 0
AreReleases One stage releases = releases ≡ first_releases stage
AreReleases Two stage releases = AreToldReleases stage releases

-- a planned or a released flight has a plan, one in work has none, and one that departed may have one
abbrev pub HasPlanFor : {X : Type 0} → Stage → Option X → Type 0
HasPlanFor Working plan = plan ≡ None
HasPlanFor Planned plan = IsSome plan
HasPlanFor Released plan = IsSome plan
HasPlanFor Departed plan = Unit {0}

-- only a released or a departed flight has late changes
abbrev pub HasChangesFor : Stage → List Lmc → Type 0
HasChangesFor Working changes = changes ≡ []
HasChangesFor Planned changes = changes ≡ []
HasChangesFor Released changes = Unit {0}
HasChangesFor Departed changes = Unit {0}

-- up to ten changes, each of which can be made to the figures with those before it
pub record AreSpelledChanges (f : Figures) (stage : Stage) (changes : List Lmc) : Type 0 where
  pub few : length changes ≤ 10
  pub each : All IsSpelledChange changes
  pub can_be_made : can_add_all f changes ≡ true
  pub for_stage : HasChangesFor stage changes

-- each part of the row is in its spelling
pub record IsSpelled (version : Version) (row : Row) : Type 0 where
  pub leg : IsSpelledLeg row.leg
  pub edition : IsEdition row.edition
  pub releases : AreReleases version row.stage row.releases
  pub base : AreSpelledFigures row.base
  pub plan : IfSome row.plan IsSpelledPlan
  pub plan_for_stage : HasPlanFor row.stage row.plan
  pub changes : AreSpelledChanges row.base row.stage row.lmcs

-- the bytes spell the row in this version: they are its text, and each part of it is in its spelling
pub record Spells (version : Version) (text : List ℕ) (row : Row) : Type 0 where
  pub is : text ≡ row_text version row
  pub spelled : IsSpelled version row
