-- the row of a flight, line by line
use Rattle.std.specs.Prelude.{ℕ, List, [], ◌∷◌, ◌++◌, map, Option, Some, None, codes}
use Rattle.mass_units.specs.Spelling.{number_text, signed_text, index_text}
use Rattle.hold_parts.specs.declared.parts.Item.{Item}
use Rattle.payload.specs.declared.figures.ZoneCount.{ZoneCount}
use Rattle.text_lines.specs.Lines.{line_of, text_of}
use Rattle.trim.specs.declared.figures.Dry.{Dry}
use Rattle.trim.specs.declared.figures.Fuel.{Fuel}
use Rattle.trim.specs.declared.figures.Regulated.{Regulated}
use Rattle.trim.specs.declared.figures.LooseFigure.{LooseFigure}
use Rattle.trim.specs.declared.figures.Figures.{Figures}
use Rattle.flight_state.specs.declared.leg.Leg.{Leg}
use Rattle.flight_state.specs.declared.change.Lmc.{Lmc}
use Rattle.flight_state.specs.declared.change.Lmc.TheVariants.{Cabin, Loose}
use Rattle.flight_state.specs.declared.state.Stage.{Stage}
use Rattle.flight_state.specs.declared.state.Stage.TheVariants.{Working, Planned, Released, Departed}
use Rattle.flight_row.specs.declared.row.Version.{Version}
use Rattle.flight_row.specs.declared.row.Version.TheVariants.{One, Two}
use Rattle.flight_row.specs.declared.row.Row.{Row}

-- Lines -----------------------------------------------------------------------------------------

-- the two forms of a row, by their first line
abbrev pub version_line : Version → List ℕ
version_line One = codes "FLIGHT 1"
version_line Two = codes "FLIGHT 2"

-- `leg FLIGHT DAY REGISTRATION ORIGIN DESTINATION`
abbrev pub leg_line : Leg → List ℕ
leg_line leg = line_of (codes "leg" ∷ leg.flight ∷ leg.day ∷ leg.registration ∷ leg.origin ∷ leg.destination ∷ [])

-- `edition NUMBER`
abbrev pub edition_line : ℕ → List ℕ
edition_line edition = line_of (codes "edition" ∷ number_text edition ∷ [])

abbrev pub stage_word : Stage → List ℕ
stage_word Working = codes "working"
stage_word Planned = codes "planned"
stage_word Released = codes "released"
stage_word Departed = codes "departed"

-- `stage working`, `stage planned`, `stage released` or `stage departed`
abbrev pub stage_line : Stage → List ℕ
stage_line stage = line_of (codes "stage" ∷ stage_word stage ∷ [])

-- `releases NUMBER`
abbrev pub releases_line : ℕ → List ℕ
releases_line releases = line_of (codes "releases" ∷ number_text releases ∷ [])

-- `dry MASS INDEX COCKPIT ATTENDANTS`
abbrev pub dry_line : Dry → List ℕ
dry_line dry =
    line_of (codes "dry" ∷ number_text dry.mass.0 ∷ index_text dry.index.0 ∷ number_text dry.cockpit ∷ number_text dry.attendants ∷ [])

-- `fuel TAXI TAKEOFF TRIP`
abbrev pub fuel_line : Fuel → List ℕ
fuel_line fuel =
    line_of (codes "fuel" ∷ number_text fuel.taxi.0 ∷ number_text fuel.take_off.0 ∷ number_text fuel.trip.0 ∷ [])

-- `limits TAKEOFF LANDING`
abbrev pub limits_line : Regulated → List ℕ
limits_line limits = line_of (codes "limits" ∷ number_text limits.take_off.0 ∷ number_text limits.landing.0 ∷ [])

-- `zone ADULTS CHILDREN INFANTS`
abbrev pub zone_line : ZoneCount → List ℕ
zone_line count =
    line_of (codes "zone" ∷ number_text count.adults ∷ number_text count.children ∷ number_text count.infants ∷ [])

-- `container ID MASS`
abbrev pub container_line : Item → List ℕ
container_line item = line_of (codes "container" ∷ item.id ∷ number_text item.mass.0 ∷ [])

-- `loose NAME MASS PIECES`
abbrev pub loose_line : LooseFigure → List ℕ
loose_line load =
    line_of (codes "loose" ∷ load.position ∷ number_text load.mass.0 ∷ number_text load.pieces ∷ [])

-- `plan NAME ..`
abbrev pub plan_line : List (List ℕ) → List ℕ
plan_line names = line_of (codes "plan" ∷ names)

-- `lmc zone ZONE ADULTS CHILDREN INFANTS` or `lmc bulk NAME MASS PIECES`
abbrev pub change_line : Lmc → List ℕ
change_line (Cabin zone adults children infants) =
    line_of (codes "lmc" ∷ codes "zone" ∷ number_text zone ∷ signed_text adults ∷ signed_text children ∷ signed_text infants ∷ [])
change_line (Loose position mass pieces) =
    line_of (codes "lmc" ∷ codes "bulk" ∷ position ∷ signed_text mass ∷ signed_text pieces ∷ [])

-- The text --------------------------------------------------------------------------------------

-- the second version has a line for the number of releases
abbrev pub releases_lines : Version → ℕ → List (List ℕ)
releases_lines One releases = []
releases_lines Two releases = releases_line releases ∷ []

-- a row has a line for its plan where it has one
abbrev pub plan_lines : Option (List (List ℕ)) → List (List ℕ)
plan_lines None = []
plan_lines (Some names) = plan_line names ∷ []

-- the lines of the figures before the late changes
abbrev pub figure_lines : Figures → List (List ℕ)
figure_lines f =
    dry_line f.dry ∷ fuel_line f.fuel ∷ limits_line f.regulated
    ∷ (map zone_line f.cabin ++ map container_line f.containers ++ map loose_line f.loose)

-- the lines of a row, in their order
abbrev pub row_lines : Version → Row → List (List ℕ)
row_lines version row =
    (version_line version ∷ leg_line row.leg ∷ edition_line row.edition ∷ stage_line row.stage ∷ [])
    ++ releases_lines version row.releases
    ++ figure_lines row.base
    ++ plan_lines row.plan
    ++ map change_line row.lmcs
    ++ (codes "END" ∷ [])

abbrev pub row_text : Version → Row → List ℕ
row_text version row = text_of (row_lines version row)
