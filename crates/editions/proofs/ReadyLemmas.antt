-- an accepted act leaves a flight that has a row and whose plan holds
use Rattle.std.proofs.Common.{refl, ◌≡◌, ⊎_elim, ℕ, ◌+◌, ◌-◌, ◌≤◌, ◌<◌, min, Bool, true, false, ◌&&◌, IsTrue, List, [], ◌∷◌, ◌++◌, length, set, replicate, All, Contains, Option, None, Some, cond, arith, ◌∙◌, sym, ap, subst, nat_le}
use Rattle.std.specs.Prelude.{IfSome, IsSome, IsSomeAnd, not, option_map, unwrap_or}
use Rattle.std.proofs.lemmas.Bool.{and_parts, leb-true, cases_Bool}
use Rattle.std.proofs.lemmas.Bool.Decides.{nat_tests}
use Rattle.std.proofs.lemmas.List.{length-set, length-append, length-replicate}
use Rattle.std.proofs.lemmas.List.Elements.{All-nil, All-cons, All-contains}
use Rattle.arrayvec.specs.ArrayVec.{ArrayVec}
use Rattle.hold_parts.specs.declared.parts.Item.{Item}
use Rattle.hold_limits.proofs.SoundLemmas.{IsSound-within}
use Rattle.payload.specs.declared.figures.ZoneCount.{ZoneCount}
use Rattle.aircraft_file.specs.Craft.{Craft}
use Rattle.aircraft_file.specs.Lawful.{IsLawfulCraft}
use Rattle.trim.specs.declared.figures.Figures.{Figures}
use Rattle.trim.specs.declared.rules.Rule.{Rule}
use Rattle.trim.specs.declared.rules.Rule.TheVariants.{ZeroFuelEnvelope, TakeOffEnvelope, LandingEnvelope, Hold, Lateral}
use Rattle.trim.specs.Limits as figures
use Rattle.trim.specs.Laws.{plan_rules}
use Rattle.trim.specs.Loads.{offer}
use Rattle.trim.specs.Points.{IsFlightAdmissible}
use Rattle.trim.specs.Refusals.{CanBeWeighed}
use Rattle.trim.specs.Rules.{all_rules, Keeps, AreBroken}
use Rattle.trim.proofs.LawLemmas.{listed-is}
use Rattle.trim.proofs.TaskLemmas.{admissible-is}
use Rattle.flight_state.specs.declared.change.Lmc.{Lmc}
use Rattle.flight_state.specs.declared.change.Lmc.TheVariants.{Cabin, Loose}
use Rattle.flight_state.specs.declared.leg.Leg.{Leg}
use Rattle.flight_state.specs.declared.state.FlightState.{FlightState}
use Rattle.flight_state.specs.declared.state.Stage.{Stage}
use Rattle.flight_state.specs.declared.state.Stage.TheVariants.{Working, Planned, Released, Departed}
use Rattle.flight_state.specs.Effective.{KeepsLimits, IsLooseWithin, effective, with_change, with_changes, can_add, can_add_all, nobody, up_to_zone, changed_count, count_in, stays_within}
use Rattle.flight_state.proofs.LimitLemmas.{effective_keeps, effective_within, same_parts}
use Rattle.flight_row.specs.Loading.{HasRow, StillHolds, rules_due}
use Rattle.flight_row.specs.Spelled.{AreToldReleases, HasPlanFor, HasChangesFor}
use Rattle.flight_row.proofs.LoadLemmas.{HasRest}
use Rattle.last_minute.specs.Planned.{HasBalance, path_of}
use Rattle.last_minute.specs.LateChange.{IsAllowed, next_figures, next_state}
use Rattle.last_minute.proofs.LateLemmas.{can-add_there, next-weighed}
use Rattle.flight_history.specs.declared.entry.Act.{Act}
use Rattle.flight_history.specs.declared.entry.Act.TheVariants.{NewFlight, Set, Take, Install, Release, Late, Reopen, Depart, Show}
use Rattle.flight_history.specs.declared.request.FigurePart.{FigurePart}
use Rattle.flight_history.specs.declared.request.FigurePart.TheVariants as part
use Rattle.flight_history.specs.declared.reply.Refusal.{Refusal}
use Rattle.flight_history.specs.declared.reply.Refusal.TheVariants as no
use Rattle.flight_history.specs.Fleet.{new_flight}
use Rattle.flight_history.specs.Standing.{is_planned}
use Rattle.flight_history.specs.Step.{replaced, step}
use Rattle.flight_history.specs.Verdict.{is_departed, is_released, refuse_if, first_of, not_current, not_released, no_more_editions, reasons, Says}
use Rattle.flight_history.proofs.ReleaseLemmas.{first_none, both_none}
use Rattle.editions.specs.Acts.{IsPartWithin}
use Rattle.editions.specs.Answers.{IsVerdictWith}
use Rattle.editions.specs.Sound.{IsReady, IsLawfulAct}

-- Figures within the limits of a row ------------------------------------------------------------------

pub record AreRowFigures (f : Figures) : Type 0 where
  pub limits : figures.KeepsLimits f
  pub dry : 1 ≤ f.dry.mass.0
  pub loose : All IsLooseWithin f.loose
  pub cockpit : f.dry.cockpit ≤ 99
  pub attendants : f.dry.attendants ≤ 99
  pub take_off : f.regulated.take_off.0 ≤ 1000000
  pub landing : f.regulated.landing.0 ≤ 1000000
  pub zones : length f.cabin ≤ 16

zones_kept : (zone : ℕ) (cabin : List ZoneCount) (count : ZoneCount) → zone ≤ 16 → length cabin ≤ 16 → length (set (up_to_zone zone cabin) (zone - 1) count) ≤ 16
zones_kept zone cabin count few short =
    let long = length-set (up_to_zone zone cabin) (zone - 1) count in
    let all = length-append cabin (replicate (zone - length cabin) nobody) in
    let added : length (replicate (zone - length cabin) nobody) ≡ zone - length cabin = length-replicate (zone - length cabin) nobody in
    omega (arith, long, all, added, few, short)

-- late changes leave no more than 16 zones
zones_few : (f : Figures) (changes : List Lmc) → can_add_all f changes ≡ true → length f.cabin ≤ 16 → length (with_changes f changes).cabin ≤ 16
zones_few f [] e short = short
zones_few f (Cabin zone adults children infants ∷ changes) e short =
    let l : Lmc = Cabin zone adults children infants in
    let parts = and_parts (can_add f l) (can_add_all (with_change f l) changes) e in
    let count = count_in zone f.cabin in
    let within = (and_parts (nat_le 1 zone && nat_le zone 16) (stays_within 999 count.adults adults && (stays_within 999 count.children children && stays_within 999 count.infants infants)) parts.0).0 in
    let few = leb-true zone 16 (and_parts (nat_le 1 zone) (nat_le zone 16) within).1 in
    zones_few (with_change f l) changes parts.1 (zones_kept zone f.cabin (changed_count count adults children infants) few short)
zones_few f (Loose name mass pieces ∷ changes) e short =
    let l : Lmc = Loose name mass pieces in
    let parts = and_parts (can_add f l) (can_add_all (with_change f l) changes) e in
    zones_few (with_change f l) changes parts.1 short

effective-figures : (a : Craft) (s : FlightState) → HasRow a s → AreRowFigures (effective s)
effective-figures a s r =
    let same = same_parts s.base s.lmcs in
    let within = effective_within s r.limits in
    record {
      limits = effective_keeps s r.limits;
      dry = subst (λ d. 1 ≤ d.mass.0) (sym same.dry) r.limits.dry;
      loose = within.loose;
      cockpit = subst (λ d. d.cockpit ≤ 99) (sym same.dry) r.cockpit;
      attendants = subst (λ d. d.attendants ≤ 99) (sym same.dry) r.attendants;
      take_off = subst (λ m. m.take_off.0 ≤ 1000000) (sym same.regulated) r.take_off;
      landing = subst (λ m. m.landing.0 ≤ 1000000) (sym same.regulated) r.landing;
      zones = zones_few s.base s.lmcs r.limits.changes r.zones;
    }

replaced-figures : (f : Figures) (told : FigurePart) → AreRowFigures f → IsPartWithin told → AreRowFigures (replaced f told)
replaced-figures f (part.Dry dry) r w = record {
  limits = record { dry = w.1; at = w.2; taxi = r.limits.taxi; take_off = r.limits.take_off; trip = r.limits.trip; passengers = r.limits.passengers; containers = r.limits.containers; masses = r.limits.masses; loose = r.limits.loose };
  dry = w.0;
  loose = r.loose;
  cockpit = w.3;
  attendants = w.4;
  take_off = r.take_off;
  landing = r.landing;
  zones = r.zones;
}
replaced-figures f (part.Fuel fuel) r w = record {
  limits = record { dry = r.limits.dry; at = r.limits.at; taxi = w.0; take_off = w.1; trip = w.2; passengers = r.limits.passengers; containers = r.limits.containers; masses = r.limits.masses; loose = r.limits.loose };
  dry = r.dry;
  loose = r.loose;
  cockpit = r.cockpit;
  attendants = r.attendants;
  take_off = r.take_off;
  landing = r.landing;
  zones = r.zones;
}
replaced-figures f (part.Limits limits) r w = record {
  limits = record { dry = r.limits.dry; at = r.limits.at; taxi = r.limits.taxi; take_off = r.limits.take_off; trip = r.limits.trip; passengers = r.limits.passengers; containers = r.limits.containers; masses = r.limits.masses; loose = r.limits.loose };
  dry = r.dry;
  loose = r.loose;
  cockpit = r.cockpit;
  attendants = r.attendants;
  take_off = w.0;
  landing = w.1;
  zones = r.zones;
}
replaced-figures f (part.Cabin cabin) r w = record {
  limits = record { dry = r.limits.dry; at = r.limits.at; taxi = r.limits.taxi; take_off = r.limits.take_off; trip = r.limits.trip; passengers = w.1; containers = r.limits.containers; masses = r.limits.masses; loose = r.limits.loose };
  dry = r.dry;
  loose = r.loose;
  cockpit = r.cockpit;
  attendants = r.attendants;
  take_off = r.take_off;
  landing = r.landing;
  zones = w.0;
}
replaced-figures f (part.Containers containers) r w = record {
  limits = record { dry = r.limits.dry; at = r.limits.at; taxi = r.limits.taxi; take_off = r.limits.take_off; trip = r.limits.trip; passengers = r.limits.passengers; containers = w.0; masses = w.1; loose = r.limits.loose };
  dry = r.dry;
  loose = r.loose;
  cockpit = r.cockpit;
  attendants = r.attendants;
  take_off = r.take_off;
  landing = r.landing;
  zones = r.zones;
}
replaced-figures f (part.Loose loose) r w = record {
  limits = record { dry = r.limits.dry; at = r.limits.at; taxi = r.limits.taxi; take_off = r.limits.take_off; trip = r.limits.trip; passengers = r.limits.passengers; containers = r.limits.containers; masses = r.limits.masses; loose = w.0 };
  dry = r.dry;
  loose = w.1;
  cockpit = r.cockpit;
  attendants = r.attendants;
  take_off = r.take_off;
  landing = r.landing;
  zones = r.zones;
}

-- a flight without late changes has what a row says beside its plan
rest-of : (s : FlightState) → AreRowFigures s.base → s.lmcs ≡ [] → 1 ≤ s.edition → s.edition ≤ 1000000000 → AreToldReleases s.stage s.releases → HasChangesFor s.stage s.lmcs → HasRest s
rest-of s r none some few releases changes = record {
  limits = record { figures = r.limits; dry = r.dry; loose = r.loose; changes = ap (can_add_all s.base) none; edition = few };
  edition = some;
  cockpit = r.cockpit;
  attendants = r.attendants;
  take_off = r.take_off;
  landing = r.landing;
  zones = r.zones;
  releases = releases;
  changes = changes;
}

-- with a plan of its positions it is a row
has-row : (a : Craft) (s : FlightState) → HasRest s → HasPlanFor s.stage s.plan → IfSome s.plan (λ (plan : ArrayVec ℕ). All (λ q. q < length a.hold.positions) plan.items) → HasRow a s
has-row a s r plan known = record {
  limits = r.limits;
  edition = r.edition;
  cockpit = r.cockpit;
  attendants = r.attendants;
  take_off = r.take_off;
  landing = r.landing;
  zones = r.zones;
  releases = r.releases;
  plan = plan;
  known = known;
  changes = r.changes;
}

-- a flight that is worked on is ready
pub ready-working : (a : Craft) (s : FlightState) → AreRowFigures s.base → s.lmcs ≡ [] → 1 ≤ s.edition → s.edition ≤ 1000000000 → s.releases ≤ 1000000000 → s.stage ≡ Working → s.plan ≡ None → IsReady a s
ready-working a s r none some few releases working unplanned = record {
  row = has-row a s (rest-of s r none some few
      (subst (λ (stage : Stage). AreToldReleases stage s.releases) (sym working) (record { few = releases; some = tt }))
      (subst (λ (stage : Stage). HasChangesFor stage s.lmcs) (sym working) none))
      (subst (λ (stage : Stage). HasPlanFor stage s.plan) (sym working) unplanned)
      (subst (λ (plan : Option (ArrayVec ℕ)). IfSome plan (λ (path : ArrayVec ℕ). All (λ q. q < length a.hold.positions) path.items)) (sym unplanned) tt);
  plan = subst (λ (plan : Option (ArrayVec ℕ)). IfSome plan (λ (path : ArrayVec ℕ). StillHolds a s path.items)) (sym unplanned) tt;
}

-- Editions --------------------------------------------------------------------------------------------

next-few : (n : ℕ) → refuse_if (nat_le 1000000000 n) no.Spent ≡ None → n + 1 ≤ 1000000000
next-few n h = by_case (nat_le 1000000000 n) refl h
  where
    by_case : (b : Bool) → nat_le 1000000000 n ≡ b → refuse_if b no.Spent ≡ None → n + 1 ≤ 1000000000
    by_case true is h = absurd (cc (h))
    by_case false is h = grind (arith, nat_tests)

-- Rules -----------------------------------------------------------------------------------------------

-- no rule is broken
unbroken : (a : Craft) (f : Figures) (path : List ℕ) (rule : Rule) → AreBroken a f path [] → Keeps a f path rule
unbroken a f path rule are = ⊎_elim
    (λ (holds : are.keeps rule ≡ true). (are.tells rule).0 holds)
    (λ (fails : are.keeps rule ≡ false). absurd (empty-has rule ((listed-is a f path [] rule are).1 (λ (keeps : Keeps a f path rule). unkept (are.keeps rule) fails ((are.tells rule).1 keeps)))))
    (cases_Bool (are.keeps rule))
  where
    unkept : (b : Bool) → b ≡ false → IsTrue b → ⊥
    unkept b is h = absurd (cc (is, h))

    empty-has : (rule : Rule) → Contains [] rule → ⊥
    empty-has rule h = absurd (omega (arith, h.1))

every : (P : Rule → Type 0) (rules : List Rule) → ((rule : Rule) → P rule) → All P rules
every P [] each = All-nil P
every P (rule ∷ rules) each = All-cons P rule rules (each rule) (every P rules each)

-- a path that is admissible for the flight keeps the rules on the hold and on the envelopes
admissible-keeps : (a : Craft) (f : Figures) (path : List ℕ) → IsFlightAdmissible a f path → All (Keeps a f path) plan_rules
admissible-keeps a f path adm =
    All-cons (Keeps a f path) ZeroFuelEnvelope (TakeOffEnvelope ∷ LandingEnvelope ∷ Hold ∷ Lateral ∷ []) adm.zero_fuel
    (All-cons (Keeps a f path) TakeOffEnvelope (LandingEnvelope ∷ Hold ∷ Lateral ∷ []) adm.take_off
    (All-cons (Keeps a f path) LandingEnvelope (Hold ∷ Lateral ∷ []) adm.landing
    (All-cons (Keeps a f path) Hold (Lateral ∷ []) adm.sound
    (All-cons (Keeps a f path) Lateral [] adm.lateral (All-nil (Keeps a f path))))))

-- Each act --------------------------------------------------------------------------------------------

ready-set : (a : Craft) (s : FlightState) (edition : ℕ) (told : FigurePart) → IsReady a s → IsPartWithin told → no_more_editions s ≡ None → IsReady a (step s (Set edition told))
ready-set a s edition told ready within spare =
    let some : 1 ≤ s.edition + 1 = omega arith in
    ready-working a (step s (Set edition told)) (replaced-figures (effective s) told (effective-figures a s ready.row) within) refl some (next-few s.edition spare) ready.row.releases.few refl refl

ready-reopen : (a : Craft) (s : FlightState) (edition : ℕ) → IsReady a s → no_more_editions s ≡ None → IsReady a (step s (Reopen edition))
ready-reopen a s edition ready spare =
    let some : 1 ≤ s.edition + 1 = omega arith in
    ready-working a (step s (Reopen edition)) (effective-figures a s ready.row) refl some (next-few s.edition spare) ready.row.releases.few refl refl

-- a flight as it is opened is ready
pub ready-new : (a : Craft) (leg : Leg) → IsLawfulCraft a → IsReady a (new_flight a leg)
ready-new a leg lawful =
    ready-working a (new_flight a leg) (record {
      limits = record { dry = lawful.limits.figures.dry.mass.1; at = lawful.limits.figures.dry.at; taxi = omega arith; take_off = omega arith; trip = omega arith; passengers = All-nil figures.HasFewPassengers; containers = omega arith; masses = All-nil (λ (item : Item). item.mass.0 ≤ 1000000); loose = omega arith };
      dry = lawful.limits.figures.dry.mass.0;
      loose = All-nil IsLooseWithin;
      cockpit = omega arith;
      attendants = omega arith;
      take_off = lawful.limits.figures.certified.take_off.1;
      landing = lawful.limits.figures.certified.landing.1;
      zones = omega arith;
    }) refl (omega arith) (omega arith) (omega arith) refl refl

ready-install : (a : Craft) (s : FlightState) (edition : ℕ) (path : ArrayVec ℕ) (same : Bool) → IsReady a s → CanBeWeighed a (effective s) → IsFlightAdmissible a (effective s) path.items → IsReady a (step s (Install edition path same))
ready-install a s edition path same ready weighed adm = record {
  row = has-row a (step s (Install edition path same))
      (rest-of (step s (Install edition path same)) (effective-figures a s ready.row) refl ready.row.edition ready.row.limits.edition (record { few = ready.row.releases.few; some = tt }) refl)
      refl (IsSound-within (offer a (effective s)) path.items adm.sound);
  plan = record { complete = adm.complete; weighed = weighed; kept = admissible-keeps a (effective s) path.items adm };
}

-- the rest of a row, with another stage and number of releases
rest-at : (a : Craft) (s : FlightState) (stage : Stage) (releases : ℕ) → HasRow a s → AreToldReleases stage releases → HasChangesFor stage s.lmcs → HasRest (record s { stage = stage; releases = releases })
rest-at a s stage releases r told changes = record {
  limits = record { figures = r.limits.figures; dry = r.limits.dry; loose = r.limits.loose; changes = r.limits.changes; edition = r.limits.edition };
  edition = r.edition;
  cockpit = r.cockpit;
  attendants = r.attendants;
  take_off = r.take_off;
  landing = r.landing;
  zones = r.zones;
  releases = told;
  changes = changes;
}

-- the stage of a flight with a plan that has not left
one-more : (stage : Stage) (n : ℕ) → AreToldReleases stage n → is_departed stage ≡ false → (P : Type 0) (plan : Option P) → HasPlanFor stage plan → IsSome plan
    → AreToldReleases Released (cond (is_planned stage) (min (n + 1) 1000000000) n)
one-more Working n told here P (Some plan) fits some = absurd (cc (fits))
one-more Working n told here P None fits some = absurd (cc (some))
one-more Planned n told here P plan fits some = record { few = omega arith; some = omega arith }
one-more Released n told here P plan fits some = record { few = told.few; some = told.some }
one-more Departed n told here P plan fits some = absurd (cc (here))

some-there : {X : Type 0} (o : Option X) (P : X → Type 0) → IsSomeAnd o P → IsSome o
some-there None P h = absurd h
some-there (Some x) P h = refl

plan-kept : (a : Craft) (s t : FlightState) (o : Option (ArrayVec ℕ)) → effective t ≡ effective s → t.base ≡ s.base → IfSome o (λ (path : ArrayVec ℕ). StillHolds a s path.items)
    → ((path : ArrayVec ℕ) → o ≡ Some path → All (Keeps a (effective s) path.items) (rules_due t.stage)) → IfSome o (λ (path : ArrayVec ℕ). StillHolds a t path.items)
plan-kept a s t None same base holds kept = tt
plan-kept a s t (Some path) same base holds kept = record {
  complete = holds.complete ∙ sym (ap (λ (f : Figures). length f.containers) base);
  weighed = subst (CanBeWeighed a) (sym same) holds.weighed;
  kept = subst (λ (f : Figures). All (Keeps a f path.items) (rules_due t.stage)) (sym same) (kept path refl);
}

none-kept : (a : Craft) (f : Figures) (o : Option (ArrayVec ℕ)) (path : ArrayVec ℕ) → IsSomeAnd o (λ (p : ArrayVec ℕ). AreBroken a f p.items []) → o ≡ Some path → All (Keeps a f path.items) all_rules
none-kept a f None path none is = absurd none
none-kept a f (Some p) path none is =
    let same : p ≡ path = cc (is) in
    every (Keeps a f path.items) all_rules (λ rule. unbroken a f path.items rule (subst (λ (x : ArrayVec ℕ). AreBroken a f x.items []) same none))

-- a flight that may be released is ready afterwards
pub ready-release : (a : Craft) (s : FlightState) (edition : ℕ) → IsReady a s → is_departed s.stage ≡ false → IsSomeAnd s.plan (λ (path : ArrayVec ℕ). AreBroken a (effective s) path.items []) → IsReady a (step s (Release edition))
ready-release a s edition ready here none =
    let t = step s (Release edition) in
    let some = some-there s.plan (λ (path : ArrayVec ℕ). AreBroken a (effective s) path.items []) none in
    record {
      row = has-row a t (rest-at a s Released t.releases ready.row (one-more s.stage s.releases ready.row.releases here (ArrayVec ℕ) s.plan ready.row.plan some) tt) some ready.row.known;
      plan = plan-kept a s t s.plan refl refl ready.plan (λ path is. none-kept a (effective s) s.plan path none is);
    }

pub released-is : (stage : Stage) → is_released stage ≡ true → stage ≡ Released
released-is Working h = absurd (cc (h))
released-is Planned h = absurd (cc (h))
released-is Released h = refl
released-is Departed h = absurd (cc (h))

rules_fewer : (P : Rule → Type 0) → All P all_rules → All P plan_rules
rules_fewer P all =
    All-cons P ZeroFuelEnvelope (TakeOffEnvelope ∷ LandingEnvelope ∷ Hold ∷ Lateral ∷ []) (All-contains P all_rules ZeroFuelEnvelope all (5, omega arith, refl))
    (All-cons P TakeOffEnvelope (LandingEnvelope ∷ Hold ∷ Lateral ∷ []) (All-contains P all_rules TakeOffEnvelope all (6, omega arith, refl))
    (All-cons P LandingEnvelope (Hold ∷ Lateral ∷ []) (All-contains P all_rules LandingEnvelope all (7, omega arith, refl))
    (All-cons P Hold (Lateral ∷ []) (All-contains P all_rules Hold all (8, omega arith, refl))
    (All-cons P Lateral [] (All-contains P all_rules Lateral all (9, omega arith, refl)) (All-nil P)))))

-- a plan that holds of a released flight keeps every rule
all-kept : (a : Craft) (s : FlightState) (o : Option (ArrayVec ℕ)) (path : ArrayVec ℕ) → s.stage ≡ Released → IfSome o (λ (p : ArrayVec ℕ). StillHolds a s p.items) → o ≡ Some path → All (Keeps a (effective s) path.items) all_rules
all-kept a s None path released holds is = absurd (cc (is))
all-kept a s (Some p) path released holds is =
    let same : p ≡ path = cc (is) in
    subst (λ (x : ArrayVec ℕ). All (Keeps a (effective s) x.items) all_rules) same
    (subst (λ (stage : Stage). All (Keeps a (effective s) p.items) (rules_due stage)) released holds.kept)

ready-depart : (a : Craft) (s : FlightState) (edition : ℕ) → IsReady a s → is_released s.stage ≡ true → IsReady a (step s (Depart edition))
ready-depart a s edition ready released =
    let is = released-is s.stage released in
    let t = step s (Depart edition) in
    let told = subst (λ (stage : Stage). AreToldReleases stage s.releases) is ready.row.releases in
    record {
      row = has-row a t (rest-at a s Departed s.releases ready.row (record { few = told.few; some = told.some }) tt) tt ready.row.known;
      plan = plan-kept a s t s.plan refl refl ready.plan (λ path at. rules_fewer (Keeps a (effective s) path.items) (all-kept a s s.plan path is ready.plan at));
    }

-- one late change more
changes-push : (f : Figures) (changes : List Lmc) (l : Lmc) → can_add_all f changes ≡ true → can_add (with_changes f changes) l ≡ true → can_add_all f (changes ++ l ∷ []) ≡ true
changes-push f [] l all can = ap (λ (b : Bool). b && true) can
changes-push f (x ∷ xs) l all can =
    let parts = and_parts (can_add f x) (can_add_all (with_change f x) xs) all in
    rw parts.0 (changes-push (with_change f x) xs l parts.1 can)

with-push : (f : Figures) (changes : List Lmc) (l : Lmc) → with_changes f (changes ++ l ∷ []) ≡ with_change (with_changes f changes) l
with-push f [] l = refl
with-push f (x ∷ xs) l = with-push (with_change f x) xs l

balance-of : (a : Craft) (s : FlightState) (o : Option (ArrayVec ℕ)) → s.plan ≡ o → KeepsLimits s → IsSome o → IfSome o (λ (path : ArrayVec ℕ). StillHolds a s path.items) → HasBalance a s
balance-of a s None is limits some holds = absurd (cc (some))
balance-of a s (Some path) is limits some holds = record {
  limits = limits;
  plan = subst (λ (o : Option (ArrayVec ℕ)). IsSome o) (sym is) refl;
  complete = ap (λ (o : Option (ArrayVec ℕ)). length (unwrap_or (option_map (λ (p : ArrayVec ℕ). p.items) o) [])) is ∙ holds.complete;
  weighed = holds.weighed;
}

-- a flight that is ready and has a plan has a balance
pub ready-balance : (a : Craft) (s : FlightState) → IsReady a s → IsSome s.plan → HasBalance a s
ready-balance a s ready some = balance-of a s s.plan refl ready.row.limits some ready.plan

-- so has a released flight
pub released-balance : (a : Craft) (s : FlightState) → IsReady a s → is_released s.stage ≡ true → HasBalance a s
released-balance a s ready released =
    ready-balance a s ready (subst (λ (stage : Stage). HasPlanFor stage s.plan) (released-is s.stage released) ready.row.plan)

path-is : (s : FlightState) (path : ArrayVec ℕ) → s.plan ≡ Some path → path_of s ≡ path.items
path-is s path is = ap (λ (o : Option (ArrayVec ℕ)). unwrap_or (option_map (λ (p : ArrayVec ℕ). p.items) o) []) is

late-holds : (a : Craft) (s : FlightState) (l : Lmc) (o : Option (ArrayVec ℕ)) → s.plan ≡ o → s.stage ≡ Released → IfSome o (λ (path : ArrayVec ℕ). StillHolds a s path.items) → IsAllowed a s l → CanBeWeighed a (next_figures s l)
    → IfSome o (λ (path : ArrayVec ℕ). StillHolds a (next_state s l) path.items)
late-holds a s l None is released holds allowed weighed = tt
late-holds a s l (Some path) is released holds allowed weighed =
    let same : effective (next_state s l) ≡ next_figures s l = with-push s.base s.lmcs l in
    record {
      complete = holds.complete;
      weighed = subst (CanBeWeighed a) (sym same) weighed;
      kept = subst (λ (f : Figures). All (Keeps a f path.items) (rules_due s.stage)) (sym same)
          (subst (λ (stage : Stage). All (Keeps a (next_figures s l) path.items) (rules_due stage)) (sym released)
          (every (Keeps a (next_figures s l) path.items) all_rules (λ rule. subst (λ (p : List ℕ). Keeps a (next_figures s l) p rule) (path-is s path is) (allowed.kept rule))));
    }

ready-late : (a : Craft) (s : FlightState) (edition : ℕ) (l : Lmc) → IsReady a s → is_released s.stage ≡ true → IsAllowed a s l → no_more_editions s ≡ None → IsReady a (step s (Late edition l))
ready-late a s edition l ready released allowed spare =
    let is = released-is s.stage released in
    let seated = allowed.tolerated.0.0 in
    let has = released-balance a s ready released in
    let r = ready.row in
    let t = next_state s l in
    let some : 1 ≤ s.edition + 1 = omega arith in
    let rest : HasRest t = record {
      limits = record {
        figures = r.limits.figures;
        dry = r.limits.dry;
        loose = r.limits.loose;
        changes = changes-push s.base s.lmcs l r.limits.changes (can-add_there a (effective s) l seated.0.1);
        edition = next-few s.edition spare;
      };
      edition = some;
      cockpit = r.cockpit;
      attendants = r.attendants;
      take_off = r.take_off;
      landing = r.landing;
      zones = r.zones;
      releases = record { few = r.releases.few; some = r.releases.some };
      changes = subst (λ (stage : Stage). HasChangesFor stage t.lmcs) (sym is) tt;
    } in
    record {
      row = has-row a t rest ready.row.plan ready.row.known;
      plan = late-holds a s l s.plan refl is ready.plan allowed (next-weighed a s l (next_figures s l) has (record { there = seated.0; is = refl }) seated.1);
    }

-- What an accepted act tells -------------------------------------------------------------------------

-- no reason comes first, and what is said next is yes
passes : (a : Craft) (s : FlightState) (act : Act) → IsVerdictWith a s act None → (first_of (reasons s act) ≡ None) × Says a s act None
passes a s act h = first_none (first_of (reasons s act)) (Says a s act) h

not_refused : (b : Bool) (r : Refusal) → refuse_if b r ≡ None → b ≡ false
not_refused true r h = absurd (cc (h))
not_refused false r h = refl

not-true : (b : Bool) → not b ≡ false → b ≡ true
not-true true h = refl
not-true false h = absurd (cc (h))

pub not-departed : (s : FlightState) (edition : ℕ) → not_current s edition ≡ None → is_departed s.stage ≡ false
not-departed s edition h = not_refused (is_departed s.stage) no.Gone (both_none (refuse_if (is_departed s.stage) no.Gone) _ h).0

-- an accepted act of a flight that is ready leaves a flight that is
pub step-ready : (a : Craft) (s : FlightState) (act : Act) → IsReady a s → IsLawfulAct a s act → IsVerdictWith a s act None → IsReady a (step s act)
step-ready a s (NewFlight leg) ready fair passed = absurd (cc (passed))
step-ready a s (Set edition told) ready fair passed =
    let p = passes a s (Set edition told) passed in
    ready-set a s edition told ready fair (both_none (no_more_editions s) None (both_none (not_current s edition) _ p.0).1).0
step-ready a s (Take edition) ready fair passed = ready
step-ready a s (Install edition path same) ready fair passed =
    let p = passes a s (Install edition path same) passed in
    let is = not-true same (not_refused (not same) no.OtherTask (both_none (refuse_if (not same) no.OtherTask) None (both_none (not_current s edition) _ p.0).1).0) in
    let best = fair is in
    ready-install a s edition path same ready best.1.weighed ((admissible-is a (effective s) best.0 best.1.parts path.items).0 best.2.admissible)
step-ready a s (Release edition) ready fair passed =
    let p = passes a s (Release edition) passed in
    ready-release a s edition ready (not-departed s edition (both_none (not_current s edition) _ p.0).0) p.1
step-ready a s (Late edition l) ready fair passed =
    let p = passes a s (Late edition l) passed in
    let released = not-true (is_released s.stage) (not_refused (not (is_released s.stage)) no.NotReleased (both_none (not_released s) None (both_none (not_current s edition) _ p.0).1).0) in
    ready-late a s edition l ready released p.1.0 p.1.1
step-ready a s (Reopen edition) ready fair passed =
    let p = passes a s (Reopen edition) passed in
    ready-reopen a s edition ready (both_none (no_more_editions s) None (both_none (not_released s) _ (both_none (not_current s edition) _ p.0).1).1).0
step-ready a s (Depart edition) ready fair passed =
    let p = passes a s (Depart edition) passed in
    let released = not-true (is_released s.stage) (not_refused (not (is_released s.stage)) no.NotReleased (both_none (not_released s) None (both_none (not_current s edition) _ p.0).1).0) in
    ready-depart a s edition ready released
step-ready a s (Show what) ready fair passed = ready
