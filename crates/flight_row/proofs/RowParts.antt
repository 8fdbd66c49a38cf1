-- the lines of a row, part by part
use Rattle.std.proofs.Common.{◌≡◌, ◌≢◌, ⊎_elim, ◌⊎◌, ℕ, ◌+◌, ◌≤◌, false, eqb, eq-eqb, pos, ◌++◌, ◌∷◌, List, [], map, length, get_or, refl, sym, ◌∙◌, ap, subst, All, Option, Some, None, IfSome, codes, lit≤}
use Rattle.std.specs.Prelude.{option_to_list, unwrap_or, IsSome}
use Rattle.std.proofs.lemmas.Bool.{false≢true}
use Rattle.std.proofs.lemmas.List.{append_assoc}
use Rattle.std.proofs.lemmas.List.Elements.{All-nil, All-cons}
use Rattle.hold_parts.specs.declared.parts.Item.{Item}
use Rattle.payload.specs.declared.figures.ZoneCount.{ZoneCount}
use Rattle.text_lines.specs.Cuts.{Avoids}
use Rattle.text_lines.specs.Lines.{IsStopped}
use Rattle.text_lines.specs.Grammar.{Fails}
use Rattle.text_lines.specs.Grammar.Fails.{no_memory}
use Rattle.text_lines.specs.Sections.{IsOfKind}
use Rattle.text_lines.specs.declared.lines.Lines.{Lines as Point}
use Rattle.text_lines.specs.declared.fault.LineFault.{LineFault}
use Rattle.text_lines.specs.declared.fault.LineFault.TheVariants.{NoMemory}
use Rattle.text_lines.proofs.WordLemmas.{plain_word}
use Rattle.text_lines.proofs.TextCuts.{AreLines}
use Rattle.text_lines.proofs.PartSteps.{front_few}
use Rattle.text_lines.proofs.Rests.{Rest, FailsAt, behind, Leads, HasOther, other_first, other_behind, StartsWithBlock, past_block, StartsWithOne, fails_at_one}
use Rattle.text_lines.proofs.RunsOfLines.{StartsWithRun, IsLast}
use Rattle.text_lines.proofs.OneReading.{IsReadOnce, block_then, one_then, run_then, last_then}
use Rattle.text_lines.proofs.OneAnswer.{one_said, no_fault}
use Rattle.trim.specs.Limits.{HasFewPassengers}
use Rattle.trim.specs.declared.figures.Dry.{Dry}
use Rattle.trim.specs.declared.figures.Fuel.{Fuel}
use Rattle.trim.specs.declared.figures.Regulated.{Regulated}
use Rattle.trim.specs.declared.figures.LooseFigure.{LooseFigure}
use Rattle.trim.specs.declared.figures.Figures.{Figures}
use Rattle.flight_state.specs.Legs.{IsSpelledLeg}
use Rattle.flight_state.specs.declared.leg.Leg.{Leg}
use Rattle.flight_state.specs.declared.change.Lmc.{Lmc}
use Rattle.flight_state.specs.declared.change.Lmc.TheVariants.{Cabin, Loose}
use Rattle.flight_state.specs.declared.state.Stage.{Stage}
use Rattle.flight_state.specs.declared.state.Stage.TheVariants.{Working, Planned, Released, Departed}
use Rattle.flight_row.specs.declared.row.Version.{Version}
use Rattle.flight_row.specs.declared.row.Version.TheVariants.{One, Two}
use Rattle.flight_row.specs.declared.row.Row.{Row}
use Rattle.flight_row.specs.declared.reader.Head.{Head}
use Rattle.flight_row.specs.RowText.{version_line, leg_line, edition_line, stage_line, releases_line, releases_lines, dry_line, fuel_line, limits_line, zone_line, container_line, loose_line, plan_line, plan_lines, change_line, row_lines}
use Rattle.flight_row.specs.Spelled.{IsEdition, IsSpelledDry, IsSpelledFuel, AreSpelledLimits, IsSpelledContainer, IsSpelledLoad, IsSpelledPlan, IsSpelledChange, AreSpelledChanges, AreSpelledFigures, AreReleases, AreToldReleases, first_releases, HasPlanFor, IsSpelled, Spells}
use Rattle.flight_row.specs.Reading.{Said, changes_part, plan_part, loads_part, containers_part, zones_part, limits_part, fuel_part, dry_part, releases_part, stage_part, edition_part, leg_part, KnowsHead, KnowsFigures, IsSpelledHead, SaysReleases, IsPlanFor, NeedsPlan, most_plans, row_with}
use Rattle.flight_row.specs.Refusals.{AreRow}
use Rattle.flight_row.proofs.LineLemmas as kind
use Rattle.flight_row.proofs.LineLemmas.{line_kind, plan_words, versions, stages}
use Rattle.flight_row.proofs.LegLemmas.{leg_words}
use Rattle.flight_row.proofs.ChangeLineLemmas.{changes as change_lines}
use Rattle.flight_row.proofs.StageLemmas.{told-releases}
use Rattle.flight_row.proofs.PartSteps.{no_changes, front_changes}

abbrev Lines : Type 0
Lines = List (List ℕ)

-- What is still to come ---------------------------------------------------------------------------

abbrev pub rows : Rest Said
rows = record { Is = λ said. IsSpelled said.0 said.1; lines = λ said. row_lines said.0 said.1 }

abbrev pub from_leg : Version → Rest Said
from_leg version = behind rows (λ said. said.0) version leg_part

-- of a head and of figures only the parts that come before are looked at
module _ (version : Version) (head : Head) where
  abbrev pub from_edition : Rest Said
  from_edition = behind (from_leg version) (λ said. said.1.leg) head.leg edition_part

  abbrev pub from_stage : Rest Said
  from_stage = behind from_edition (λ said. said.1.edition) head.edition stage_part

  abbrev pub from_releases : Rest Said
  from_releases = behind from_stage (λ said. said.1.stage) head.stage releases_part

  abbrev pub from_dry : Rest Said
  from_dry = behind from_releases (λ said. said.1.releases) head.releases dry_part

  module _ (base : Figures) where
    abbrev pub from_fuel : Rest Said
    from_fuel = behind from_dry (λ said. said.1.base.dry) base.dry fuel_part

    abbrev pub from_limits : Rest Said
    from_limits = behind from_fuel (λ said. said.1.base.fuel) base.fuel limits_part

    abbrev pub from_zones : Rest Said
    from_zones = behind from_limits (λ said. said.1.base.regulated) base.regulated zones_part

    abbrev pub from_containers : Rest Said
    from_containers = behind from_zones (λ said. said.1.base.cabin) base.cabin containers_part

    abbrev pub from_loads : Rest Said
    from_loads = behind from_containers (λ said. said.1.base.containers) base.containers loads_part

    abbrev pub from_plan : Rest Said
    from_plan = behind from_loads (λ said. said.1.base.loose) base.loose plan_part

    abbrev pub from_changes : List Lines → Rest Said
    from_changes plans = behind from_plan (λ said. option_to_list said.1.plan) plans changes_part

    abbrev pub from_end : List Lines → List Lmc → Rest Said
    from_end plans changes = behind (from_changes plans) (λ said. said.1.lmcs) changes (λ said. codes "END" ∷ [])

-- Which lines a run of lines ends before ----------------------------------------------------------

-- the first two letters of a line tell the kinds of lines apart that come in runs
abbrev letters : List ℕ → ℕ
letters line = get_or line 0 0 + get_or line 1 0

plan_letters : (names : Lines) → letters (plan_line names) ≡ 220
plan_letters [] = refl
plan_letters (name ∷ names) = refl

change_letters : (change : Lmc) → letters (change_line change) ≡ 217
change_letters (Cabin zone adults children infants) = refl
change_letters (Loose position mass pieces) = refl

module _ {X : Type 0} (line : X → List ℕ) (P : X → Type 0) (own : ℕ) (letters_are : (x : X) → letters (line x) ≡ own) where
  other : (first : List ℕ) → eqb (letters first) own ≡ false → (x : X) → P x → first ≢ line x
  other first apart x right e = false≢true (sym apart ∙ eq-eqb (letters first) own (ap letters e ∙ letters_are x))

  before_end : eqb 147 own ≡ false → HasOther line P (codes "END" ∷ [])
  before_end end = other_first (codes "END") [] (other (codes "END") end)

  before_changes : eqb 217 own ≡ false → eqb 147 own ≡ false → (said : Said) → HasOther line P (changes_part said)
  before_changes lmc end said = other_behind change_line (λ change. other (change_line change) (ap (λ n. eqb n own) (change_letters change) ∙ lmc)) said.1.lmcs (codes "END" ∷ []) (before_end end)

  before_plan : eqb 220 own ≡ false → eqb 217 own ≡ false → eqb 147 own ≡ false → (said : Said) → HasOther line P (plan_part said)
  before_plan plan lmc end said = other_behind plan_line (λ names. other (plan_line names) (ap (λ n. eqb n own) (plan_letters names) ∙ plan)) (option_to_list said.1.plan) (changes_part said) (before_changes lmc end said)

  before_loads : eqb 219 own ≡ false → eqb 220 own ≡ false → eqb 217 own ≡ false → eqb 147 own ≡ false → (said : Said) → HasOther line P (loads_part said)
  before_loads loose plan lmc end said = other_behind loose_line (λ load. other (loose_line load) loose) said.1.base.loose (plan_part said) (before_plan plan lmc end said)

  before_containers : eqb 210 own ≡ false → eqb 219 own ≡ false → eqb 220 own ≡ false → eqb 217 own ≡ false → eqb 147 own ≡ false → (said : Said) → HasOther line P (containers_part said)
  before_containers container loose plan lmc end said = other_behind container_line (λ item. other (container_line item) container) said.1.base.containers (loads_part said) (before_loads loose plan lmc end said)

-- From the first line on --------------------------------------------------------------------------

plan_run : (plan : Option Lines) → plan_lines plan ≡ map plan_line (option_to_list plan)
plan_run None = refl
plan_run (Some names) = refl

regrouped : (R Z C L P M E : Lines) (dry fuel limits : List ℕ) → (((R ++ (dry ∷ fuel ∷ limits ∷ ((Z ++ C) ++ L))) ++ P) ++ M) ++ E ≡ R ++ (dry ∷ fuel ∷ limits ∷ (Z ++ (C ++ (L ++ (P ++ (M ++ E))))))
regrouped R Z C L P M E dry fuel limits = simp append_assoc

row_lines-whole : (version : Version) (row : Row) → row_lines version row ≡ version_line version ∷ leg_part (version, row)
row_lines-whole version row =
    let f = row.base in
    let Z = map zone_line f.cabin in
    let C = map container_line f.containers in
    let L = map loose_line f.loose in
    let M = map change_line row.lmcs in
    let R = releases_lines version row.releases in
    let whole = regrouped R Z C L (plan_lines row.plan) M (codes "END" ∷ []) (dry_line f.dry) (fuel_line f.fuel) (limits_line f.regulated) in
    let planned = ap (λ (P : Lines). R ++ (dry_line f.dry ∷ fuel_line f.fuel ∷ limits_line f.regulated ∷ (Z ++ (C ++ (L ++ (P ++ (M ++ (codes "END" ∷ [])))))))) (plan_run row.plan) in
    ap (λ (lines : Lines). version_line version ∷ leg_line row.leg ∷ edition_line row.edition ∷ stage_line row.stage ∷ lines) (whole ∙ planned)

pub starts_with_version : StartsWithOne rows version_line (λ (version : Version). Unit {0}) (λ said. said.0) leg_part
starts_with_version = record { kind = versions; right = λ said s. tt; are = λ said s. row_lines-whole said.0 said.1 }

pub starts_with_leg : (version : Version) → StartsWithOne (from_leg version) leg_line IsSpelledLeg (λ said. said.1.leg) edition_part
starts_with_leg version = record { kind = line_kind leg_words; right = λ said s. s.0.leg; are = λ said s. refl }

-- The releases, which a row of the first version does not tell ------------------------------------

-- how often the flight was released is read in one way only
told_once : (v : Version) (stage : Stage) (m n : ℕ) (lines other : Lines) → AreReleases v stage m → AreReleases v stage n → releases_lines v m ++ lines ≡ releases_lines v n ++ other → (m ≡ n) × (lines ≡ other)
told_once One stage m n lines other p q e = (p ∙ sym q, e)
told_once Two stage m n lines other p q e = let heads : releases_line m ≡ releases_line n = cc (e) in ((kind.releases stage).once m n p q heads, cc (e))

told_are : (v : Version) (stage : Stage) (releases : ℕ) → AreReleases v stage releases → AreLines (releases_lines v releases)
told_are One stage releases p = All-nil (Avoids 10)
told_are Two stage releases p = All-cons (Avoids 10) (releases_line releases) [] ((kind.releases stage).avoids releases p) (All-nil (Avoids 10))

module _ (version : Version) (head : Head) where
  pub starts_with_edition : StartsWithOne (from_edition version head) edition_line IsEdition (λ said. said.1.edition) stage_part
  starts_with_edition = record { kind = kind.editions; right = λ said s. s.0.0.edition; are = λ said s. refl }

  pub starts_with_stage : StartsWithOne (from_stage version head) stage_line (λ (stage : Stage). Unit {0}) (λ said. said.1.stage) releases_part
  starts_with_stage = record { kind = stages; right = λ said s. tt; are = λ said s. refl }

  releases_in : (said : Said) → (from_releases version head).Is said → AreReleases version head.stage said.1.releases
  releases_in said s = subst (λ (v : Version). AreReleases v head.stage said.1.releases) s.0.0.0.1 (subst (λ (stage : Stage). AreReleases said.0 stage said.1.releases) s.1 s.0.0.0.0.releases)

  starts_with_told : StartsWithBlock (from_releases version head) (releases_lines version) (AreReleases version head.stage) (λ said. said.1.releases) dry_part
  starts_with_told = record {
    once = told_once version head.stage;
    clear = told_are version head.stage;
    right = releases_in;
    are = λ said s. ap (λ (v : Version). releases_lines v said.1.releases ++ dry_part said) s.0.0.0.1;
  }

  pub past_releases : (here there : Point) → SaysReleases version head.stage here.rest.now there.rest.now here.number there.number head.releases → Leads (from_releases version head) here (from_dry version head) there
  past_releases here there says = past_block starts_with_told here there head.releases says.right says.read says.counted

  -- in the second version, where the line that tells them is still to come
  pub starts_with_releases : version ≡ Two → StartsWithOne (from_releases version head) releases_line (AreToldReleases head.stage) (λ said. said.1.releases) dry_part
  starts_with_releases two = record {
    kind = kind.releases head.stage;
    right = λ said s. subst (λ (v : Version). AreReleases v head.stage said.1.releases) two (releases_in said s);
    are = λ said s. ap (λ (v : Version). releases_lines v said.1.releases ++ dry_part said) (s.0.0.0.1 ∙ two);
  }

-- The figures -------------------------------------------------------------------------------------

module _ (version : Version) (head : Head) where
  pub starts_with_dry : StartsWithOne (from_dry version head) dry_line IsSpelledDry (λ said. said.1.base.dry) fuel_part
  starts_with_dry = record { kind = kind.dry; right = λ said s. s.0.0.0.0.0.base.dry; are = λ said s. refl }

  module _ (base : Figures) where
    pub starts_with_fuel : StartsWithOne (from_fuel version head base) fuel_line IsSpelledFuel (λ said. said.1.base.fuel) limits_part
    starts_with_fuel = record { kind = kind.fuel; right = λ said s. s.0.0.0.0.0.0.base.fuel; are = λ said s. refl }

    pub starts_with_limits : StartsWithOne (from_limits version head base) limits_line AreSpelledLimits (λ said. said.1.base.regulated) zones_part
    starts_with_limits = record { kind = kind.limits; right = λ said s. s.0.0.0.0.0.0.0.base.limits; are = λ said s. refl }

    pub starts_with_zones : StartsWithRun (from_zones version head base) zone_line HasFewPassengers (λ zones. length zones ≤ 16) (λ said. said.1.base.cabin) containers_part
    starts_with_zones = record {
      kind = kind.zones;
      front = front_few 16;
      right = λ said s. s.0.0.0.0.0.0.0.0.base.passengers;
      allowed = λ said s. s.0.0.0.0.0.0.0.0.base.zones;
      are = λ said s. refl;
      other = λ said s. before_containers zone_line HasFewPassengers 233 (λ x. refl) refl refl refl refl refl said;
    }

    pub starts_with_containers : StartsWithRun (from_containers version head base) container_line IsSpelledContainer (λ items. length items ≤ 64) (λ said. said.1.base.containers) loads_part
    starts_with_containers = record {
      kind = kind.containers;
      front = front_few 64;
      right = λ said s. s.0.0.0.0.0.0.0.0.0.base.containers;
      allowed = λ said s. s.0.0.0.0.0.0.0.0.0.base.few_containers;
      are = λ said s. refl;
      other = λ said s. before_loads container_line IsSpelledContainer 210 (λ x. refl) refl refl refl refl said;
    }

    pub starts_with_loads : StartsWithRun (from_loads version head base) loose_line IsSpelledLoad (λ loads. length loads ≤ 64) (λ said. said.1.base.loose) plan_part
    starts_with_loads = record {
      kind = kind.loads;
      front = front_few 64;
      right = λ said s. s.0.0.0.0.0.0.0.0.0.0.base.loads;
      allowed = λ said s. s.0.0.0.0.0.0.0.0.0.0.base.few_loads;
      are = λ said s. refl;
      other = λ said s. before_plan loose_line IsSpelledLoad 219 (λ x. refl) refl refl refl said;
    }

-- The plan, the late changes, and the last line ---------------------------------------------------

few_plans : (stage : Stage) (plan : Option Lines) → HasPlanFor stage plan → length (option_to_list plan) ≤ most_plans stage
few_plans Working None h = lit≤ tt
few_plans Working (Some names) h = absurd (cc (h))
few_plans Planned None h = lit≤ tt
few_plans Planned (Some names) h = lit≤ tt
few_plans Released None h = lit≤ tt
few_plans Released (Some names) h = lit≤ tt
few_plans Departed None h = lit≤ tt
few_plans Departed (Some names) h = lit≤ tt

plans_right : (plan : Option Lines) → IfSome plan IsSpelledPlan → All IsSpelledPlan (option_to_list plan)
plans_right None s = All-nil IsSpelledPlan
plans_right (Some names) s = All-cons IsSpelledPlan names [] s (All-nil IsSpelledPlan)

same_plan : (a b : Option Lines) → option_to_list a ≡ option_to_list b → a ≡ b
same_plan None None e = refl
same_plan None (Some names) e = absurd (cc (e))
same_plan (Some names) None e = absurd (cc (e))
same_plan (Some names) (Some others) e = let same : names ≡ others = cc (e) in ap Some same

pub no_names : IsSpelledPlan []
no_names = record { few = lit≤ tt; each = All-nil _ }

names_right : (plan : Option Lines) → IfSome plan IsSpelledPlan → IsSpelledPlan (unwrap_or plan [])
names_right None s = no_names
names_right (Some names) s = s

one_plan : (plan : Option Lines) (lines : Lines) → IsSome plan → map plan_line (option_to_list plan) ++ lines ≡ plan_line (unwrap_or plan []) ∷ lines
one_plan None lines some = absurd (cc (some))
one_plan (Some names) lines some = refl

module _ (version : Version) (head : Head) (base : Figures) (said : Said) (s : KnowsFigures version head base said) where
  known_head : KnowsHead version head said
  known_head = s.0.0.0.0.0.0

  spelled : IsSpelled said.0 said.1
  spelled = known_head.0.0.0.0.0

  at_stage : said.1.stage ≡ head.stage
  at_stage = known_head.0.1

  figures_are : said.1.base ≡ base
  figures_are i = record { dry = s.0.0.0.0.0.1 i; fuel = s.0.0.0.0.1 i; regulated = s.0.0.0.1 i; cabin = s.0.0.1 i; containers = s.0.1 i; loose = s.1 i }

  plan_for : HasPlanFor head.stage said.1.plan
  plan_for = subst (λ (stage : Stage). HasPlanFor stage said.1.plan) at_stage spelled.plan_for_stage

  changes_for : AreSpelledChanges base head.stage said.1.lmcs
  changes_for = subst (λ (f : Figures). AreSpelledChanges f head.stage said.1.lmcs) figures_are (subst (λ (stage : Stage). AreSpelledChanges said.1.base stage said.1.lmcs) at_stage spelled.changes)

module _ (version : Version) (head : Head) (base : Figures) where
  pub starts_with_plan : StartsWithRun (from_plan version head base) plan_line IsSpelledPlan (λ (plans : List Lines). length plans ≤ most_plans head.stage) (λ said. option_to_list said.1.plan) changes_part
  starts_with_plan = record {
    kind = line_kind plan_words;
    front = front_few (most_plans head.stage);
    right = λ said s. plans_right said.1.plan (spelled version head base said s).plan;
    allowed = λ said s. few_plans head.stage said.1.plan (plan_for version head base said s);
    are = λ said s. refl;
    other = λ said s. before_changes plan_line IsSpelledPlan 220 plan_letters refl refl said;
  }

  -- where a plan has to come
  pub starts_with_one_plan : NeedsPlan head.stage → StartsWithOne (from_plan version head base) plan_line IsSpelledPlan (λ said. unwrap_or said.1.plan []) changes_part
  starts_with_one_plan needed = record {
    kind = line_kind plan_words;
    right = λ said s. names_right said.1.plan (spelled version head base said s).plan;
    are = λ said s.
        let Has : Stage → Type 0 = λ stage. HasPlanFor stage said.1.plan in
        let plan = plan_for version head base said s in
        one_plan said.1.plan (changes_part said) (⊎_elim (λ (e : head.stage ≡ Planned). subst Has e plan) (λ (e : head.stage ≡ Released). subst Has e plan) needed);
  }

  module _ (plans : List Lines) where
    pub starts_with_changes : StartsWithRun (from_changes version head base plans) change_line IsSpelledChange (AreSpelledChanges base head.stage) (λ said. said.1.lmcs) (λ said. codes "END" ∷ [])
    starts_with_changes = record {
      kind = change_lines;
      front = front_changes base head.stage;
      right = λ said s. (spelled version head base said s.0).changes.each;
      allowed = λ said s. changes_for version head base said s.0;
      are = λ said s. refl;
      other = λ said s. before_end change_line IsSpelledChange 217 change_letters refl;
    }

    pub ends : (changes : List Lmc) → IsLast (from_end version head base plans changes) (codes "END")
    ends changes = record {
      plain = plain_word 10 (codes "END") refl;
      known = λ v w s t.
          let a = known_head version head base v s.0.0 in
          let b = known_head version head base w t.0.0 in
          let figures = figures_are version head base v s.0.0 ∙ sym (figures_are version head base w t.0.0) in
          let plan = same_plan v.1.plan w.1.plan (s.0.1 ∙ sym t.0.1) in
          λ i. (
            (a.0.0.0.0.1 ∙ sym b.0.0.0.0.1) i,
            record {
              leg = (a.0.0.0.1 ∙ sym b.0.0.0.1) i;
              edition = (a.0.0.1 ∙ sym b.0.0.1) i;
              stage = (a.0.1 ∙ sym b.0.1) i;
              releases = (a.1 ∙ sym b.1) i;
              base = figures i;
              plan = plan i;
              lmcs = (s.1 ∙ sym t.1) i;
            },
          );
      are = λ said s. refl;
    }

  plan_then : IsReadOnce (from_plan version head base)
  plan_then = run_then starts_with_plan (λ plans. run_then (starts_with_changes plans) (λ changes. last_then (ends plans changes)))

-- Some parts --------------------------------------------------------------------------------------

abbrev pub head_with : Leg → ℕ → Stage → Head
head_with leg edition stage = record { leg = leg; edition = edition; stage = stage; releases = first_releases stage }

abbrev pub figures_with : Dry → Fuel → Regulated → List ZoneCount → List Item → List LooseFigure → Figures
figures_with dry fuel limits cabin items loads = record { dry = dry; fuel = fuel; regulated = limits; cabin = cabin; containers = items; loose = loads }

abbrev pub some_leg : Leg
some_leg = record { flight = codes "AA1"; day = codes "01"; registration = codes "AA"; origin = codes "AAA"; destination = codes "AAA" }

abbrev pub some_dry : Dry
some_dry = record { mass = record { 0 = 1 }; index = record { 0 = pos 0 }; cockpit = 0; attendants = 0 }

abbrev pub no_fuel : Fuel
no_fuel = record { taxi = record { 0 = 0 }; take_off = record { 0 = 0 }; trip = record { 0 = 0 } }

abbrev pub no_limits : Regulated
no_limits = record { take_off = record { 0 = 0 }; landing = record { 0 = 0 } }

abbrev pub some_plan : Stage → Option Lines
some_plan Working = None
some_plan Planned = Some []
some_plan Released = Some []
some_plan Departed = None

abbrev pub no_figures : Figures
no_figures = figures_with some_dry no_fuel no_limits [] [] []

-- some row of a head and figures
abbrev pub some_row : Head → Figures → Row
some_row head base = row_with head base (some_plan head.stage) []

pub leg_right : IsSpelledLeg some_leg
leg_right = record { flight = refl; day = refl; registration = refl; origin = refl; destination = refl }

dry_right : IsSpelledDry some_dry
dry_right = record { some = lit≤ tt; mass = lit≤ tt; at = lit≤ tt; cockpit = lit≤ tt; attendants = lit≤ tt }

pub fuel_right : IsSpelledFuel no_fuel
fuel_right = record { taxi = lit≤ tt; take_off = lit≤ tt; trip = lit≤ tt; on_board = lit≤ tt }

pub limits_right : AreSpelledLimits no_limits
limits_right = record { take_off = lit≤ tt; landing = lit≤ tt }

pub head_right : (version : Version) (leg : Leg) (edition : ℕ) (stage : Stage) → IsSpelledLeg leg → IsEdition edition → IsSpelledHead version (head_with leg edition stage)
head_right One leg edition stage l e = record { leg = l; edition = e; releases = refl }
head_right Two leg edition stage l e = record { leg = l; edition = e; releases = told-releases One stage (first_releases stage) refl }

pub figures_right : {dry : Dry} {fuel : Fuel} {limits : Regulated} → IsSpelledDry dry → IsSpelledFuel fuel → AreSpelledLimits limits → AreSpelledFigures (figures_with dry fuel limits [] [] [])
figures_right dry fuel limits = record {
  dry = dry;
  fuel = fuel;
  limits = limits;
  zones = lit≤ tt;
  passengers = All-nil HasFewPassengers;
  few_containers = lit≤ tt;
  containers = All-nil IsSpelledContainer;
  few_loads = lit≤ tt;
  loads = All-nil IsSpelledLoad;
}

pub no_figures_right : AreSpelledFigures no_figures
no_figures_right = figures_right dry_right fuel_right limits_right

plan_right : (stage : Stage) → IsPlanFor stage (some_plan stage)
plan_right Working = record { spelled = tt; for_stage = refl }
plan_right Planned = record { spelled = no_names; for_stage = refl }
plan_right Released = record { spelled = no_names; for_stage = refl }
plan_right Departed = record { spelled = tt; for_stage = tt }

pub row_right : {version : Version} {head : Head} {base : Figures} {plan : Option Lines} {changes : List Lmc} → IsSpelledHead version head → AreSpelledFigures base → IsPlanFor head.stage plan → AreSpelledChanges base head.stage changes → IsSpelled version (row_with head base plan changes)
row_right h f p c = record { leg = h.leg; edition = h.edition; releases = h.releases; base = f; plan = p.spelled; plan_for_stage = p.for_stage; changes = c }

pub some_right : {version : Version} {head : Head} {base : Figures} → IsSpelledHead version head → AreSpelledFigures base → IsSpelled version (some_row head base)
some_right {head = head} {base = base} h f = row_right h f (plan_right head.stage) (no_changes base head.stage)

-- such a row has the head, and each row its own head and figures
pub in_head : {version : Version} {head : Head} {base : Figures} → IsSpelledHead version head → AreSpelledFigures base → KnowsHead version head (version, some_row head base)
in_head h f = (((((some_right h f, refl), refl), refl), refl), refl)

pub has_figures : (version : Version) (head : Head) (base : Figures) (plan : Option Lines) (changes : List Lmc) → IsSpelled version (row_with head base plan changes) → KnowsFigures version head base (version, row_with head base plan changes)
has_figures version head base plan changes s = (((((((((((s, refl), refl), refl), refl), refl), refl), refl), refl), refl), refl), refl)

-- Faults ------------------------------------------------------------------------------------------

or_no_memory : {Stopped : Type 0} (rest : Rest Said) (here : Point) (fault : LineFault) → (Stopped → FailsAt rest here fault) → (fault ≡ NoMemory) ⊎ Stopped → FailsAt rest here fault
or_no_memory {Stopped} rest here fault fails h = ⊎_elim (λ (e : fault ≡ NoMemory). subst (FailsAt rest here) (sym e) no_memory) (λ (stopped : Stopped). fails stopped) h

-- there was no memory for the next line, or it is not of the kind
pub fails_at_next : {X : Type 0} {rest : Rest Said} {line : X → List ℕ} {P : X → Type 0} {part : Said → X} {later : Said → Lines} → StartsWithOne rest line P part later → (some : Said) → rest.Is some
    → (here : Point) (fault : LineFault) → (fault ≡ NoMemory) ⊎ IsStopped here.rest.now here.number (IsOfKind line P) fault → FailsAt rest here fault
fails_at_next {rest = rest} starts some is here fault h = or_no_memory rest here fault (fails_at_one starts some is here fault) h

-- the same where the line comes in the second version alone, or for a flight that needs a plan

pub fails_at_releases : (version : Version) (head : Head) → IsSpelledHead version head → (here : Point) (fault : LineFault)
    → (fault ≡ NoMemory) ⊎ ((version ≡ Two) × IsStopped here.rest.now here.number (IsOfKind releases_line (AreToldReleases head.stage)) fault) → FailsAt (from_releases version head) here fault
fails_at_releases version head h here fault =
    or_no_memory (from_releases version head) here fault
    (λ s. fails_at_one (starts_with_releases version head s.0) (version, some_row head no_figures) ((((some_right h no_figures_right, refl), refl), refl), refl) here fault s.1)

pub fails_at_plan : (version : Version) (head : Head) (base : Figures) → IsSpelledHead version head → AreSpelledFigures base → (here : Point) (fault : LineFault)
    → (fault ≡ NoMemory) ⊎ (NeedsPlan head.stage × IsStopped here.rest.now here.number (IsOfKind plan_line IsSpelledPlan) fault) → FailsAt (from_plan version head base) here fault
fails_at_plan version head base h f here fault =
    or_no_memory (from_plan version head base) here fault
    (λ s. fails_at_one (starts_with_one_plan version head base s.0) (version, some_row head base) (has_figures version head base (some_plan head.stage) [] (some_right h f)) here fault s.1)

-- a fault from the first line on is one of the text
pub fails_text : (text : List ℕ) (at : Point) (fault : LineFault) → at.rest.now ≡ text → at.number ≡ 1 → FailsAt rows at fault → Fails AreRow text 1 fault
fails_text text at fault whole first fails =
    let At : List ℕ → ℕ → Type 0 = λ t n. Fails AreRow t n fault in
    subst (λ (n : ℕ). At text n) first (subst (λ (t : List ℕ). At t at.number) whole fails)

-- One row, and no fault ---------------------------------------------------------------------------

figures_then : (version : Version) (head : Head) → IsReadOnce (from_dry version head)
figures_then version head =
    one_then (starts_with_dry version head) (λ dry.
    one_then (starts_with_fuel version head (figures_with dry no_fuel no_limits [] [] [])) (λ fuel.
    one_then (starts_with_limits version head (figures_with dry fuel no_limits [] [] [])) (λ limits.
    run_then (starts_with_zones version head (figures_with dry fuel limits [] [] [])) (λ zones.
    run_then (starts_with_containers version head (figures_with dry fuel limits zones [] [])) (λ items.
    run_then (starts_with_loads version head (figures_with dry fuel limits zones items [])) (λ loads. plan_then version head (figures_with dry fuel limits zones items loads)))))))

is_read_once : IsReadOnce rows
is_read_once =
    one_then starts_with_version (λ version.
    one_then (starts_with_leg version) (λ leg.
    one_then (starts_with_edition version (head_with leg 0 Working)) (λ edition.
    one_then (starts_with_stage version (head_with leg edition Working)) (λ stage.
    block_then (starts_with_told version (head_with leg edition stage)) (λ releases. figures_then version (record { leg = leg; edition = edition; stage = stage; releases = releases }))))))

pub spelled_once : (v w : Version) (text : List ℕ) (r q : Row) → Spells v text r → Spells w text q → r ≡ q
spelled_once v w text r q s t = ap (λ (said : Said). said.1) (one_said rows is_read_once text (v, r) (w, q) s.spelled t.spelled s.is t.is)

pub spelled_has_no_fault : (v : Version) (text : List ℕ) (r : Row) (f : LineFault) → Spells v text r → Fails AreRow text 1 f → f ≡ NoMemory
spelled_has_no_fault v text r f s fails = no_fault rows is_read_once text 1 f (v, r) s.spelled s.is fails
