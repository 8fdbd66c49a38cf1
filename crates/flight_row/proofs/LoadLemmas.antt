-- the flight that a row stands for
use Rattle.std.proofs.Common.{◌≡◌, ℕ, ◌-◌, ◌≤◌, ◌<◌, Bool, true, ◌&&◌, ◌∷◌, List, [], length, map, set, replicate, refl, sym, ◌∙◌, ap, subst, arith, All, Option, Some, None}
use Rattle.std.specs.Prelude.{IfSome, nat_le, find, bytes_eq, unwrap_or, option_map}
use Rattle.std.proofs.lemmas.Bool.{and_parts, leb-true, cond_both}
use Rattle.std.proofs.lemmas.Option.{same_Some, none-some, cond_some}
use Rattle.std.proofs.lemmas.List.{length-set, length-append, length-replicate}
use Rattle.std.proofs.lemmas.List.Elements.{All-weaker, All-set, All-push, All-head, All-tail}
use Rattle.arrayvec.specs.ArrayVec.{ArrayVec}
use Rattle.hold_parts.specs.Spellings.{IsName, IsUldId}
use Rattle.hold_parts.specs.declared.parts.Item.{Item}
use Rattle.hold_limits.specs.Layout.{name_at}
use Rattle.aircraft_file.specs.Craft.{Craft}
use Rattle.payload.specs.declared.figures.ZoneCount.{ZoneCount}
use Rattle.trim.specs.declared.figures.LooseFigure.{LooseFigure}
use Rattle.trim.specs.declared.figures.Figures.{Figures}
use Rattle.flight_state.specs.Effective.{KeepsLimits, effective, with_change, with_changes, can_add, can_add_all, put_load, place_at, changed_load, load_at, nothing_at, is_at, nobody, up_to_zone, changed_count, count_in, stays_within}
use Rattle.flight_state.specs.declared.change.Lmc.{Lmc}
use Rattle.flight_state.specs.declared.change.Lmc.TheVariants.{Cabin, Loose}
use Rattle.flight_state.specs.declared.state.Stage.{Stage}
use Rattle.flight_state.specs.declared.state.Stage.TheVariants.{Working, Planned, Released, Departed}
use Rattle.flight_state.specs.declared.state.FlightState.{FlightState}
use Rattle.flight_state.proofs.LimitLemmas.{effective_keeps, effective_within, same_parts}
use Rattle.flight_row.specs.declared.row.Version.{Version}
use Rattle.flight_row.specs.declared.row.Row.{Row}
use Rattle.flight_row.specs.Spelled.{AreSpelledFigures, IsSpelledLoad, IsSpelledContainer, IsSpelledPlan, IsSpelledChange, AreSpelledChanges, IsSpelled, Spells, HasPlanFor, HasChangesFor, AreToldReleases}
use Rattle.flight_row.specs.Loading.{AreNamed, StillHolds, state_with, in_work_again, without_plan, HasPlan, IsLoaded, HasRow, KeepsPlan, Reads, aircraft_of, row_of, plan_names}
use Rattle.flight_row.specs.RowText.{row_text}
use Rattle.flight_row.specs.declared.row.Version.TheVariants.{Two}
use Rattle.flight_state.specs.Legs.{IsSpelledLeg}
use Rattle.flight_row.specs.Loading.IsLoaded.{unplanned, planned, dropped}
use Rattle.flight_row.proofs.PartSteps.{no_changes}
use Rattle.flight_row.proofs.RowParts.{spelled_once}
use Rattle.flight_row.proofs.PlanLemmas.{AreDifferent, plan_once}
use Rattle.flight_row.proofs.StageLemmas.{told-releases, plan-for-some, plan-for-none}

abbrev Names : Type 0
Names = List (List ℕ)

-- Limits -----------------------------------------------------------------------------------------------

-- a flight with spelled figures keeps its limits
pub keeps_limits : (s : FlightState) → AreSpelledFigures s.base → can_add_all s.base s.lmcs ≡ true → s.edition ≤ 1000000000 → KeepsLimits s
keeps_limits s b changes edition = record {
  figures = record {
    dry = b.dry.mass;
    at = b.dry.at;
    taxi = b.fuel.taxi;
    take_off = b.fuel.take_off;
    trip = b.fuel.on_board;
    passengers = b.passengers;
    containers = b.few_containers;
    masses = All-weaker IsSpelledContainer (λ (item : Item). item.mass.0 ≤ 1000000) (λ item c. c.mass) s.base.containers b.containers;
    loose = b.few_loads;
  };
  dry = b.dry.some;
  loose = All-weaker IsSpelledLoad (λ (load : LooseFigure). (load.mass.0 ≤ 1000000) × (load.pieces ≤ 999)) (λ load l. l.within) s.base.loose b.loads;
  changes = changes;
  edition = edition;
}

-- late changes leave no more than 16 zones
zones_kept : (zone : ℕ) (cabin : List ZoneCount) (count : ZoneCount) → zone ≤ 16 → length cabin ≤ 16 → length (set (up_to_zone zone cabin) (zone - 1) count) ≤ 16
zones_kept zone cabin count few short =
    let long = length-set (up_to_zone zone cabin) (zone - 1) count in
    let all = length-append cabin (replicate (zone - length cabin) nobody) in
    let added : length (replicate (zone - length cabin) nobody) ≡ zone - length cabin = length-replicate (zone - length cabin) nobody in
    omega (arith, long, all, added, few, short)

cabin_few : (f : Figures) (changes : List Lmc) → can_add_all f changes ≡ true → length f.cabin ≤ 16 → length (with_changes f changes).cabin ≤ 16
cabin_few f [] e short = short
cabin_few f (Cabin zone adults children infants ∷ changes) e short =
    let l : Lmc = Cabin zone adults children infants in
    let parts = and_parts (can_add f l) (can_add_all (with_change f l) changes) e in
    let count = count_in zone f.cabin in
    let within = (and_parts (nat_le 1 zone && nat_le zone 16) (stays_within 999 count.adults adults && (stays_within 999 count.children children && stays_within 999 count.infants infants)) parts.0).0 in
    let few = leb-true zone 16 (and_parts (nat_le 1 zone) (nat_le zone 16) within).1 in
    cabin_few (with_change f l) changes parts.1 (zones_kept zone f.cabin (changed_count count adults children infants) few short)
cabin_few f (Loose name mass pieces ∷ changes) e short =
    let l : Lmc = Loose name mass pieces in
    let parts = and_parts (can_add f l) (can_add_all (with_change f l) changes) e in
    cabin_few (with_change f l) changes parts.1 short

-- A flight without a plan, or with one -----------------------------------------------------------------

-- what a row says of the flight, beside its plan
pub record HasRest (s : FlightState) : Type 0 where
  pub limits : KeepsLimits s
  pub edition : 1 ≤ s.edition
  pub cockpit : s.base.dry.cockpit ≤ 99
  pub attendants : s.base.dry.attendants ≤ 99
  pub take_off : s.base.regulated.take_off.0 ≤ 1000000
  pub landing : s.base.regulated.landing.0 ≤ 1000000
  pub zones : length s.base.cabin ≤ 16
  pub releases : AreToldReleases s.stage s.releases
  pub changes : HasChangesFor s.stage s.lmcs

pub rest_of : (version : Version) (row : Row) (plan : Option (ArrayVec ℕ)) → IsSpelled version row → HasRest (state_with row plan)
rest_of version row plan s = record {
  limits = keeps_limits (state_with row plan) s.base s.changes.can_be_made s.edition.1;
  edition = s.edition.0;
  cockpit = s.base.dry.cockpit;
  attendants = s.base.dry.attendants;
  take_off = s.base.limits.take_off;
  landing = s.base.limits.landing;
  zones = s.base.zones;
  releases = told-releases version row.stage row.releases s.releases;
  changes = s.changes.for_stage;
}

has_row : (a : Craft) (s : FlightState) → HasRest s → HasPlanFor s.stage s.plan → IfSome s.plan (λ (plan : ArrayVec ℕ). All (λ q. q < length a.hold.positions) plan.items) → HasRow a s
has_row a s r plan known = record {
  limits = r.limits;
  edition = r.edition;
  cockpit = r.cockpit;
  attendants = r.attendants;
  take_off = r.take_off;
  landing = r.landing;
  zones = r.zones;
  releases = r.releases;
  plan = plan;
  known = known;
  changes = r.changes;
}

-- a flight in work again
again_rest : (s : FlightState) → HasRest s → HasRest (in_work_again s)
again_rest s r =
    let same = same_parts s.base s.lmcs in
    let within = effective_within s r.limits in
    record {
      limits = record {
        figures = effective_keeps s r.limits;
        dry = subst (λ d. 1 ≤ d.mass.0) (sym same.dry) r.limits.dry;
        loose = within.loose;
        changes = refl;
        edition = omega arith;
      };
      edition = let e = r.edition in omega (arith, e);
      cockpit = subst (λ d. d.cockpit ≤ 99) (sym same.dry) r.cockpit;
      attendants = subst (λ d. d.attendants ≤ 99) (sym same.dry) r.attendants;
      take_off = subst (λ m. m.take_off.0 ≤ 1000000) (sym same.regulated) r.take_off;
      landing = subst (λ m. m.landing.0 ≤ 1000000) (sym same.regulated) r.landing;
      zones = cabin_few s.base s.lmcs r.limits.changes r.zones;
      releases = record { few = r.releases.few; some = tt };
      changes = refl;
    }

dropped_row : (a : Craft) (stage : Stage) (s : FlightState) → s.stage ≡ stage → HasRest s → HasRow a (without_plan stage s) × KeepsPlan a (without_plan stage s)
dropped_row a Working s is r = (has_row a (in_work_again s) (again_rest s r) refl tt, tt)
dropped_row a Planned s is r = (has_row a (in_work_again s) (again_rest s r) refl tt, tt)
dropped_row a Released s is r = (has_row a (in_work_again s) (again_rest s r) refl tt, tt)
dropped_row a Departed s is r =
    let t : FlightState = record s { plan = None } in
    let rest : HasRest t = record {
      limits = record { figures = r.limits.figures; dry = r.limits.dry; loose = r.limits.loose; changes = r.limits.changes; edition = r.limits.edition };
      edition = r.edition;
      cockpit = r.cockpit;
      attendants = r.attendants;
      take_off = r.take_off;
      landing = r.landing;
      zones = r.zones;
      releases = r.releases;
      changes = r.changes;
    } in
    (has_row a t rest (subst (λ (stage : Stage). HasPlanFor {X = ArrayVec ℕ} stage None) (sym is) tt) tt, tt)

-- the flight that a row stands for has a row, and its plan holds
pub loaded_row : (a : Craft) (version : Version) (row : Row) (s : FlightState) → IsSpelled version row → IsLoaded a row s → HasRow a s × KeepsPlan a s
loaded_row a version row _ sp (unplanned none) =
    let for_stage : HasPlanFor {X = Names} row.stage None = subst (HasPlanFor row.stage) none sp.plan_for_stage in
    (has_row a (state_with row None) (rest_of version row None sp) (plan-for-none Names (ArrayVec ℕ) row.stage for_stage) tt, tt)
loaded_row a version row _ sp (planned plan h) =
    let for_stage : HasPlanFor row.stage (Some h.names) = subst (HasPlanFor row.stage) h.told sp.plan_for_stage in
    (has_row a (state_with row (Some plan)) (rest_of version row (Some plan) sp) (plan-for-some row.stage h.names plan for_stage) h.named.known, h.holds)
loaded_row a version row _ sp (dropped names told none) = dropped_row a row.stage (state_with row None) refl (rest_of version row None sp)

-- One flight -------------------------------------------------------------------------------------------

same_plan : (p q : ArrayVec ℕ) → p.items ≡ q.items → p ≡ q
same_plan p q e = λ i. record { items = e i }

none_some : (names : Names) (o : Option Names) → o ≡ None → o ≡ Some names → ⊥
none_some names o none some = absurd (cc (none, some))

pub loaded_once : (a : Craft) → AreDifferent a.hold.positions → (row : Row) (s t : FlightState) → IsLoaded a row s → IsLoaded a row t → s ≡ t
loaded_once a differ row _ _ (unplanned none) (unplanned other) = refl
loaded_once a differ row _ _ (unplanned none) (planned plan h) = absurd (none_some h.names row.plan none h.told)
loaded_once a differ row _ _ (unplanned none) (dropped names told fails) = absurd (none_some names row.plan none told)
loaded_once a differ row _ _ (planned plan h) (unplanned none) = absurd (none_some h.names row.plan none h.told)
loaded_once a differ row _ _ (planned plan h) (planned other k) =
    let names : h.names ≡ k.names = same_Some h.names k.names (sym h.told ∙ k.told) in
    let items = plan_once a differ h.names plan.items other.items h.named (subst (λ (ns : Names). AreNamed a ns other.items) (sym names) k.named) in
    ap (λ (p : ArrayVec ℕ). state_with row (Some p)) (same_plan plan other items)
loaded_once a differ row _ _ (planned plan h) (dropped names told fails) = absurd (fails plan h)
loaded_once a differ row _ _ (dropped names told fails) (unplanned none) = absurd (none_some names row.plan none told)
loaded_once a differ row _ _ (dropped names told fails) (planned plan h) = absurd (fails plan h)
loaded_once a differ row _ _ (dropped names told fails) (dropped others told' fails') = refl

-- What the reader of a plan says -----------------------------------------------------------------------

same_holds : (a : Craft) (row : Row) (p q : Option (ArrayVec ℕ)) (path : List ℕ) → StillHolds a (state_with row p) path → StillHolds a (state_with row q) path
same_holds a row p q path h = record { complete = h.complete; weighed = h.weighed; kept = h.kept }

pub is_planned : (a : Craft) (row : Row) (names : Names) (plan : ArrayVec ℕ) → row.plan ≡ Some names → AreNamed a names plan.items × StillHolds a (state_with row None) plan.items → IsLoaded a row (state_with row (Some plan))
is_planned a row names plan told h = planned plan (record { names = names; told = told; named = h.0; holds = same_holds a row None (Some plan) plan.items h.1 })

pub is_dropped : (a : Craft) (row : Row) (names : Names) → row.plan ≡ Some names → ((path : List ℕ) → AreNamed a names path → StillHolds a (state_with row None) path → ⊥) → IsLoaded a row (without_plan row.stage (state_with row None))
is_dropped a row names told none = dropped names told (λ plan h.
    let same : h.names ≡ names = same_Some h.names names (sym h.told ∙ told) in
    none plan.items (subst (λ (ns : Names). AreNamed a ns plan.items) same h.named) (same_holds a row (Some plan) None plan.items h.holds))

-- The flight has a row again ---------------------------------------------------------------------------

dropped_leg : (stage : Stage) (s : FlightState) → (without_plan stage s).leg ≡ s.leg
dropped_leg Working s = refl
dropped_leg Planned s = refl
dropped_leg Released s = refl
dropped_leg Departed s = refl

pub loaded_leg : (a : Craft) (row : Row) (s : FlightState) → IsLoaded a row s → s.leg ≡ row.leg
loaded_leg a row _ (unplanned none) = refl
loaded_leg a row _ (planned plan h) = refl
loaded_leg a row _ (dropped names told none) = dropped_leg row.stage (state_with row None)

abbrev IsNamedLoad : LooseFigure → Type 0
IsNamedLoad load = IsName load.position

-- the texts of a flight are spelled
pub record HasTexts (a : Craft) (s : FlightState) : Type 0 where
  pub leg : IsSpelledLeg s.leg
  pub containers : All (λ (item : Item). IsUldId item.id) s.base.containers
  pub loads : All (λ (load : LooseFigure). IsName load.position) s.base.loose
  pub plan : IfSome (plan_names a.hold.positions s) IsSpelledPlan
  pub changes : AreSpelledChanges s.base s.stage s.lmcs

-- what holds of each load, and of the other one, holds of the load that is found, or of the other
pub found_load : (P : LooseFigure → Type 0) (test : LooseFigure → Bool) (loads : List LooseFigure) (other : LooseFigure) → P other → All P loads → P (unwrap_or (find test loads) other)
found_load P test [] other right each = right
found_load P test (load ∷ loads) other right each =
    cond_both (test load) (Some load) (find test loads) (λ (o : Option LooseFigure). P (unwrap_or o other)) (λ yes. All-head P load loads each) (λ no. found_load P test loads other right (All-tail P load loads each))

put_named : (place : Option ℕ) (load : LooseFigure) (loads : List LooseFigure) → IsNamedLoad load → All IsNamedLoad loads → All IsNamedLoad (put_load place load loads)
put_named (Some at) load loads named each = All-set IsNamedLoad loads at load named each
put_named None load loads named each = All-push IsNamedLoad loads load each named

loads_named : (f : Figures) (changes : List Lmc) → All IsNamedLoad f.loose → All IsSpelledChange changes → All IsNamedLoad (with_changes f changes).loose
loads_named f [] loads each = loads
loads_named f (Cabin zone adults children infants ∷ changes) loads each =
    let l : Lmc = Cabin zone adults children infants in
    loads_named (with_change f l) changes loads (All-tail IsSpelledChange l changes each)
loads_named f (Loose name mass pieces ∷ changes) loads each =
    let l : Lmc = Loose name mass pieces in
    let named = All-head IsSpelledChange l changes each in
    let load = found_load IsNamedLoad (is_at name) f.loose (nothing_at name) named.0 loads in
    loads_named (with_change f l) changes (put_named (place_at name f.loose) (changed_load (load_at name f.loose) mass pieces) f.loose load loads) (All-tail IsSpelledChange l changes each)

items_named : (f : Figures) → AreSpelledFigures f → All (λ (item : Item). IsUldId item.id) f.containers
items_named f b = All-weaker IsSpelledContainer (λ (item : Item). IsUldId item.id) (λ item c. c.id) f.containers b.containers

figures_named : (f : Figures) → AreSpelledFigures f → All IsNamedLoad f.loose
figures_named f b = All-weaker IsSpelledLoad IsNamedLoad (λ load l. l.name) f.loose b.loads

again_texts : (a : Craft) (version : Version) (row : Row) → IsSpelled version row → HasTexts a (in_work_again (state_with row None))
again_texts a version row sp =
    let s = state_with row None in
    let same = same_parts s.base s.lmcs in
    record {
      leg = sp.leg;
      containers = subst (All (λ (item : Item). IsUldId item.id)) (sym same.containers) (items_named row.base sp.base);
      loads = loads_named row.base row.lmcs (figures_named row.base sp.base) sp.changes.each;
      plan = tt;
      changes = no_changes (effective s) Working;
    }

dropped_texts : (a : Craft) (version : Version) (row : Row) (stage : Stage) → row.stage ≡ stage → IsSpelled version row → HasTexts a (without_plan stage (state_with row None))
dropped_texts a version row Working is sp = again_texts a version row sp
dropped_texts a version row Planned is sp = again_texts a version row sp
dropped_texts a version row Released is sp = again_texts a version row sp
dropped_texts a version row Departed is sp = record { leg = sp.leg; containers = items_named row.base sp.base; loads = figures_named row.base sp.base; plan = tt; changes = sp.changes }

pub loaded_texts : (a : Craft) (version : Version) (row : Row) (s : FlightState) → IsSpelled version row → IsLoaded a row s → HasTexts a s
loaded_texts a version row _ sp (unplanned none) = record { leg = sp.leg; containers = items_named row.base sp.base; loads = figures_named row.base sp.base; plan = tt; changes = sp.changes }
loaded_texts a version row _ sp (planned plan h) =
    let told : IsSpelledPlan h.names = subst (λ (o : Option Names). IfSome o IsSpelledPlan) h.told sp.plan in
    record {
      leg = sp.leg;
      containers = items_named row.base sp.base;
      loads = figures_named row.base sp.base;
      plan = subst IsSpelledPlan h.named.are told;
      changes = sp.changes;
    }
loaded_texts a version row _ sp (dropped names told none) = dropped_texts a version row row.stage refl sp

plan_for_names : (stage : Stage) (f : ArrayVec ℕ → Names) (o : Option (ArrayVec ℕ)) → HasPlanFor stage o → HasPlanFor stage (option_map f o)
plan_for_names stage f None h = plan-for-none (ArrayVec ℕ) Names stage h
plan_for_names stage f (Some plan) h = plan-for-some stage plan (f plan) h

-- a flight with a row, whose texts are spelled, has a spelled row
row_spelled_of : (a : Craft) (s : FlightState) → HasRow a s → HasTexts a s → IsSpelled Two (row_of a s)
row_spelled_of a s h t =
    let k = h.limits.figures in
    record {
      leg = t.leg;
      edition = (h.edition, h.limits.edition);
      releases = h.releases;
      base = record {
        dry = record { some = h.limits.dry; mass = k.dry; at = k.at; cockpit = h.cockpit; attendants = h.attendants };
        fuel = record { taxi = k.taxi; take_off = k.take_off; trip = (let burned = k.trip in let most = k.take_off in omega (arith, burned, most)); on_board = k.trip };
        limits = record { take_off = h.take_off; landing = h.landing };
        zones = h.zones;
        passengers = k.passengers;
        few_containers = k.containers;
        containers = λ i d within. record { id = t.containers i d within; mass = k.masses i d within };
        few_loads = k.loose;
        loads = λ i d within. record { name = t.loads i d within; within = h.limits.loose i d within };
      };
      plan = t.plan;
      plan_for_stage = plan_for_names s.stage (λ (plan : ArrayVec ℕ). map (name_at a.hold.positions) plan.items) s.plan h.plan;
      changes = t.changes;
    }

-- the row of a flight without a plan, or with one that holds, stands for this flight

again_none : (a : Craft) (s : FlightState) → s.plan ≡ None → IsLoaded a (row_of a s) s
again_none a s e =
    let same : state_with (row_of a s) None ≡ s = λ i. record { leg = s.leg; edition = s.edition; stage = s.stage; base = s.base; plan = sym e i; lmcs = s.lmcs; releases = s.releases } in
    subst (IsLoaded a (row_of a s)) same (unplanned (ap (option_map (λ (plan : ArrayVec ℕ). map (name_at a.hold.positions) plan.items)) e))

again_some : (a : Craft) (s : FlightState) (plan : ArrayVec ℕ) → s.plan ≡ Some plan → All (λ q. q < length a.hold.positions) plan.items → StillHolds a s plan.items → IsLoaded a (row_of a s) s
again_some a s plan e known h =
    let row = row_of a s in
    let names = map (name_at a.hold.positions) plan.items in
    let same : state_with row (Some plan) ≡ s = λ i. record { leg = s.leg; edition = s.edition; stage = s.stage; base = s.base; plan = sym e i; lmcs = s.lmcs; releases = s.releases } in
    let has : HasPlan a row plan = record {
      names = names;
      told = ap (option_map (λ (p : ArrayVec ℕ). map (name_at a.hold.positions) p.items)) e;
      named = record { known = known; are = refl };
      holds = record { complete = h.complete; weighed = h.weighed; kept = h.kept };
    } in
    subst (IsLoaded a row) same (planned plan has)

again_by : (a : Craft) (s : FlightState) (o : Option (ArrayVec ℕ)) → s.plan ≡ o → IfSome o (λ (plan : ArrayVec ℕ). All (λ q. q < length a.hold.positions) plan.items) → IfSome o (λ (plan : ArrayVec ℕ). StillHolds a s plan.items) → IsLoaded a (row_of a s) s
again_by a s None e known h = again_none a s e
again_by a s (Some plan) e known h = again_some a s plan e known h

pub reads_again : (fleet : List Craft) (a : Craft) (s : FlightState) → HasRow a s → KeepsPlan a s → HasTexts a s → aircraft_of fleet s.leg ≡ Some a → Reads fleet (row_text Two (row_of a s)) s
reads_again fleet a s h keeps t found = record {
  version = Two;
  row = row_of a s;
  spells = record { is = refl; spelled = row_spelled_of a s h t };
  aircraft = a;
  found = found;
  loaded = again_by a s s.plan refl h.known keeps;
}

-- One answer -------------------------------------------------------------------------------------------

pub reads_once : (fleet : List Craft) (text : List ℕ) (version : Version) (row : Row) (a : Craft) (got s : FlightState) → AreDifferent a.hold.positions → Spells version text row → aircraft_of fleet row.leg ≡ Some a → IsLoaded a row got → Reads fleet text s → got ≡ s
reads_once fleet text version row a got s differ spells found loaded r =
    let same : row ≡ r.row = spelled_once version r.version text row r.row spells r.spells in
    let craft : a ≡ r.aircraft = same_Some a r.aircraft (sym found ∙ ap (λ (q : Row). aircraft_of fleet q.leg) same ∙ r.found) in
    let of_row = subst (λ (q : Row). IsLoaded r.aircraft q s) (sym same) r.loaded in
    let of_craft = subst (λ (b : Craft). IsLoaded b row s) (sym craft) of_row in
    loaded_once a differ row got s loaded of_craft

pub no_reads : (fleet : List Craft) (text : List ℕ) (version : Version) (row : Row) (s : FlightState) → Spells version text row → aircraft_of fleet row.leg ≡ None → Reads fleet text s → ⊥
no_reads fleet text version row s spells none r =
    let same : row ≡ r.row = spelled_once version r.version text row r.row spells r.spells in
    none-some r.aircraft (sym none ∙ ap (λ (q : Row). aircraft_of fleet q.leg) same ∙ r.found)

pub kept_row : (fleet : List Craft) (version : Version) (row : Row) (a b : Craft) (s : FlightState) → IsSpelled version row → aircraft_of fleet row.leg ≡ Some a → IsLoaded a row s → aircraft_of fleet s.leg ≡ Some b → HasRow b s × KeepsPlan b s
kept_row fleet version row a b s sp found loaded other =
    let craft : a ≡ b = same_Some a b (sym found ∙ ap (aircraft_of fleet) (sym (loaded_leg a row s loaded)) ∙ other) in
    subst (λ (c : Craft). HasRow c s × KeepsPlan c s) craft (loaded_row a version row s sp loaded)

pub renewed_row : (fleet : List Craft) (version : Version) (row : Row) (a b : Craft) (s : FlightState) → IsSpelled version row → aircraft_of fleet row.leg ≡ Some a → IsLoaded a row s → aircraft_of fleet s.leg ≡ Some b → Reads fleet (row_text Two (row_of b s)) s
renewed_row fleet version row a b s sp found loaded other =
    let craft : a ≡ b = same_Some a b (sym found ∙ ap (aircraft_of fleet) (sym (loaded_leg a row s loaded)) ∙ other) in
    let kept = loaded_row a version row s sp loaded in
    let again = reads_again fleet a s kept.0 kept.1 (loaded_texts a version row s sp loaded) (ap (aircraft_of fleet) (loaded_leg a row s loaded) ∙ found) in
    subst (λ (c : Craft). Reads fleet (row_text Two (row_of c s)) s) craft again

-- a fleet of one aircraft has the aircraft of each flight that is read with it
pub only_aircraft : (fleet : List Craft) (a : Craft) (text : List ℕ) (s : FlightState) → fleet ≡ a ∷ [] → Reads fleet text s → aircraft_of fleet s.leg ≡ Some a
only_aircraft fleet a text s one r =
    let test : Craft → Bool = λ b. bytes_eq b.registration r.row.leg.registration in
    let found : aircraft_of (a ∷ []) r.row.leg ≡ Some r.aircraft = ap (λ (cs : List Craft). aircraft_of cs r.row.leg) (sym one) ∙ r.found in
    let same = (cond_some (test a) a r.aircraft found).1 in
    ap (aircraft_of fleet) (loaded_leg r.aircraft r.row s r.loaded) ∙ r.found ∙ ap Some (sym same)
