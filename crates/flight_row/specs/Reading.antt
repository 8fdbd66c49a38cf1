-- what the steps of the reader return
use Rattle.std.specs.Prelude.{◌≡◌, ℕ, ◌+◌, ◌⊎◌, List, [], ◌∷◌, ◌++◌, length, map, Option, option_to_list, IfSome, codes}
use Rattle.text_lines.specs.Lines.{text_of}
use Rattle.text_lines.specs.Grammar.{Fails}
use Rattle.text_lines.specs.Stated.{AreLinesOf}
use Rattle.text_lines.specs.declared.fault.LineFault.{LineFault}
use Rattle.trim.specs.declared.figures.Figures.{Figures}
use Rattle.flight_state.specs.Legs.{IsSpelledLeg}
use Rattle.flight_state.specs.declared.change.Lmc.{Lmc}
use Rattle.flight_state.specs.declared.state.Stage.{Stage}
use Rattle.flight_state.specs.declared.state.Stage.TheVariants.{Working, Planned, Released, Departed}
use Rattle.flight_row.specs.declared.row.Version.{Version}
use Rattle.flight_row.specs.declared.row.Row.{Row}
use Rattle.flight_row.specs.declared.reader.Head.{Head}
use Rattle.flight_row.specs.RowText.{leg_line, edition_line, stage_line, releases_lines, dry_line, fuel_line, limits_line, zone_line, container_line, loose_line, plan_line, change_line}
use Rattle.flight_row.specs.Spelled.{IsEdition, AreReleases, IsSpelledPlan, HasPlanFor, IsSpelled}

-- a row in one of the versions
abbrev pub Said : Type 0
Said = Version × Row

-- The lines of a row from some point on -----------------------------------------------------------

abbrev pub changes_part : Said → List (List ℕ)
changes_part said = map change_line said.1.lmcs ++ (codes "END" ∷ [])

-- a row has one plan, or none
abbrev pub plan_part : Said → List (List ℕ)
plan_part said = map plan_line (option_to_list said.1.plan) ++ changes_part said

abbrev pub loads_part : Said → List (List ℕ)
loads_part said = map loose_line said.1.base.loose ++ plan_part said

abbrev pub containers_part : Said → List (List ℕ)
containers_part said = map container_line said.1.base.containers ++ loads_part said

abbrev pub zones_part : Said → List (List ℕ)
zones_part said = map zone_line said.1.base.cabin ++ containers_part said

abbrev pub limits_part : Said → List (List ℕ)
limits_part said = limits_line said.1.base.regulated ∷ zones_part said

abbrev pub fuel_part : Said → List (List ℕ)
fuel_part said = fuel_line said.1.base.fuel ∷ limits_part said

abbrev pub dry_part : Said → List (List ℕ)
dry_part said = dry_line said.1.base.dry ∷ fuel_part said

abbrev pub releases_part : Said → List (List ℕ)
releases_part said = releases_lines said.0 said.1.releases ++ dry_part said

abbrev pub stage_part : Said → List (List ℕ)
stage_part said = stage_line said.1.stage ∷ releases_part said

abbrev pub edition_part : Said → List (List ℕ)
edition_part said = edition_line said.1.edition ∷ stage_part said

abbrev pub leg_part : Said → List (List ℕ)
leg_part said = leg_line said.1.leg ∷ edition_part said

-- What is known of a row behind some of its lines -------------------------------------------------

-- one part more is known
abbrev pub Knows : {X : Type 0} → (Said → Type 0) → (Said → X) → X → Said → Type 0
Knows IsKnown part x said = IsKnown said × (part said ≡ x)

abbrev pub KnowsVersion : Version → Said → Type 0
KnowsVersion version = Knows (λ (said : Said). IsSpelled said.0 said.1) (λ (said : Said). said.0) version

abbrev pub KnowsHead : Version → Head → Said → Type 0
KnowsHead version head =
    Knows (Knows (Knows (Knows (KnowsVersion version) (λ (said : Said). said.1.leg) head.leg) (λ (said : Said). said.1.edition) head.edition)
    (λ (said : Said). said.1.stage) head.stage) (λ (said : Said). said.1.releases) head.releases

abbrev pub KnowsFigures : Version → Head → Figures → Said → Type 0
KnowsFigures version head base =
    Knows (Knows (Knows (Knows (Knows (Knows (KnowsHead version head) (λ (said : Said). said.1.base.dry) base.dry) (λ (said : Said). said.1.base.fuel) base.fuel)
    (λ (said : Said). said.1.base.regulated) base.regulated) (λ (said : Said). said.1.base.cabin) base.cabin)
    (λ (said : Said). said.1.base.containers) base.containers) (λ (said : Said). said.1.base.loose) base.loose

-- these are all lines of some row from that of the leg, of the dry aircraft, or of the plan on
abbrev pub AreFromLeg : Version → List (List ℕ) → Type 0
AreFromLeg version = AreLinesOf (KnowsVersion version) leg_part

abbrev pub AreFromDry : Version → Head → List (List ℕ) → Type 0
AreFromDry version head = AreLinesOf (KnowsHead version head) dry_part

abbrev pub AreFromPlan : Version → Head → Figures → List (List ℕ) → Type 0
AreFromPlan version head base = AreLinesOf (KnowsFigures version head base) plan_part

-- a step of the reader from one point of a text to a later one; a point is what is still to be read, with the number of its
-- first line
pub record HasRead (IsHere IsThere : Said → Type 0) (from to : Said → List (List ℕ)) (before after : List ℕ) (number next : ℕ) : Type 0 where
  -- where the text fails from the later point on, it fails from the earlier one
  pub fails : (fault : LineFault) → Fails (AreLinesOf IsThere to) after next fault → Fails (AreLinesOf IsHere from) before number fault
  -- what the lines from the later point on state, those from the earlier one state
  pub read : (said : Said) → IsThere said → after ≡ text_of (to said) → IsHere said × (before ≡ text_of (from said))

-- What was read -----------------------------------------------------------------------------------

-- the parts of a head are in their spelling
pub record IsSpelledHead (version : Version) (head : Head) : Type 0 where
  pub leg : IsSpelledLeg head.leg
  pub edition : IsEdition head.edition
  pub releases : AreReleases version head.stage head.releases

-- the lines between two points say how often the flight was released
pub record SaysReleases (version : Version) (stage : Stage) (before after : List ℕ) (number next : ℕ) (releases : ℕ) : Type 0 where
  pub right : AreReleases version stage releases
  pub read : before ≡ text_of (releases_lines version releases) ++ after
  pub counted : next ≡ number + length (releases_lines version releases)

-- the plan is in its spelling, and is one that a flight at this stage has
pub record IsPlanFor (stage : Stage) (plan : Option (List (List ℕ))) : Type 0 where
  pub spelled : IfSome plan IsSpelledPlan
  pub for_stage : HasPlanFor stage plan

-- a planned or a released flight has a plan
abbrev pub NeedsPlan : Stage → Type 0
NeedsPlan stage = (stage ≡ Planned) ⊎ (stage ≡ Released)

-- how many plans a flight may have
abbrev pub most_plans : Stage → ℕ
most_plans Working = 0
most_plans Planned = 1
most_plans Released = 1
most_plans Departed = 1

-- the row of these parts
abbrev pub row_with : Head → Figures → Option (List (List ℕ)) → List Lmc → Row
row_with head base plan changes = record {
  leg = head.leg;
  edition = head.edition;
  stage = head.stage;
  releases = head.releases;
  base = base;
  plan = plan;
  lmcs = changes;
}
