-- a row that was written is read back
use Rattle.std.proofs.Common.{◌≡◌, ⊎_elim, ℕ, ◌-◌, ◌≤◌, ◌<◌, Bool, true, false, ◌&&◌, ℤ, pos, ◌+ℤ◌, unsigned_abs, ◌∷◌, List, [], length, map, get_or, sym, ◌∙◌, ap, subst, arith, All, Option, Some, None}
use Rattle.std.specs.Prelude.{IfSome, nat_le, int_le, find, unwrap_or, bytes_eq, option_map}
use Rattle.std.proofs.lemmas.Bool.{and_parts, leb-true, cases_lt, cases_Bool, cond-true, cond-false}
use Rattle.hold_limits.proofs.EnumerationLemmas.{int_le-Decides}
use Rattle.std.proofs.lemmas.Int.{ints}
use Rattle.std.proofs.lemmas.List.{length-map}
use Rattle.std.proofs.lemmas.List.Elements.{All-nil, All-cons, All-head, All-tail, All-map, All-weaker}
use Rattle.std.proofs.lemmas.Option.{unwrap_or-slice_get, slice_get_past, same_Some}
use Rattle.std.proofs.lemmas.Slice.Eq.{bytes_eq-Decides}
use Rattle.arrayvec.specs.ArrayVec.{ArrayVec}
use Rattle.hold_parts.specs.Spellings.{IsName, IsUldId}
use Rattle.hold_parts.specs.declared.parts.Item.{Item}
use Rattle.hold_parts.specs.declared.parts.Position.{Position}
use Rattle.hold_limits.specs.Layout.{name_at}
use Rattle.text_lines.proofs.NameLemmas.{name_at-is, some_position}
use Rattle.aircraft_file.specs.Craft.{Craft}
use Rattle.aircraft_file.specs.Lawful.{IsLawfulCraft}
use Rattle.aircraft_file.specs.Spellings.{is_registration}
use Rattle.payload.specs.declared.figures.ZoneCount.{ZoneCount}
use Rattle.trim.specs.Limits.{HasFewPassengers}
use Rattle.trim.specs.declared.figures.LooseFigure.{LooseFigure}
use Rattle.trim.specs.declared.figures.Figures.{Figures}
use Rattle.flight_state.specs.Effective.{with_change, can_add, can_add_all, count_in, nobody, is_at, load_at, nothing_at, count_with, stays_within, IsLooseWithin}
use Rattle.flight_state.specs.declared.change.Lmc.{Lmc}
use Rattle.flight_state.specs.declared.change.Lmc.TheVariants.{Cabin, Loose}
use Rattle.flight_state.specs.declared.state.FlightState.{FlightState}
use Rattle.flight_state.specs.declared.leg.Leg.{Leg}
use Rattle.flight_state.specs.Legs.{IsSpelledLeg}
use Rattle.flight_state.proofs.LimitLemmas.{AreWithin, within_change}
use Rattle.flight_row.specs.declared.row.Version.TheVariants.{Two}
use Rattle.flight_row.specs.RowText.{row_text}
use Rattle.flight_row.specs.Spelled.{IsSpelledPlan, IsSpelledChange, IsNamedChange}
use Rattle.flight_row.specs.Loading.{HasRow, KeepsPlan, Reads, aircraft_of, row_of}
use Rattle.flight_row.proofs.LoadLemmas.{HasTexts, found_load, reads_again}

-- a change that leaves a number within its limit is itself within it
small_change : (most n : ℕ) (z : ℤ) → n ≤ most → stays_within most n z ≡ true → unsigned_abs z ≤ most
small_change most n z few e =
    let parts = and_parts (int_le (pos 0) (pos n +ℤ z)) (int_le (pos n +ℤ z) (pos most)) e in
    let low = (int_le-Decides (pos 0) (pos n +ℤ z)).0 parts.0 in
    let high = (int_le-Decides (pos n +ℤ z) (pos most)).0 parts.1 in
    omega (arith, ints, low, high, few)

-- the count of a zone
count_few : (zone : ℕ) (cabin : List ZoneCount) → All HasFewPassengers cabin → HasFewPassengers (count_in zone cabin)
count_few zone cabin each = ⊎_elim
    (λ (within : zone - 1 < length cabin). each (zone - 1) nobody within)
    (λ (past : length cabin ≤ zone - 1).
    let none : get_or cabin (zone - 1) nobody ≡ nobody = sym (unwrap_or-slice_get cabin (zone - 1) nobody) ∙ ap (λ (o : Option ZoneCount). unwrap_or o nobody) (slice_get_past cabin (zone - 1) past) in
    subst HasFewPassengers (sym none) (omega arith, omega arith, omega arith))
    (cases_lt (zone - 1) (length cabin))

change_spelled : (f : Figures) (l : Lmc) → AreWithin f → can_add f l ≡ true → IsNamedChange l → IsSpelledChange l
change_spelled f (Cabin zone adults children infants) w e named =
    let count = count_in zone f.cabin in
    let few = count_few zone f.cabin w.passengers in
    let parts = and_parts (nat_le 1 zone && nat_le zone 16) (stays_within 999 count.adults adults && (stays_within 999 count.children children && stays_within 999 count.infants infants)) e in
    let zones = and_parts (nat_le 1 zone) (nat_le zone 16) parts.0 in
    let counts = and_parts (stays_within 999 count.adults adults) (stays_within 999 count.children children && stays_within 999 count.infants infants) parts.1 in
    let others = and_parts (stays_within 999 count.children children) (stays_within 999 count.infants infants) counts.1 in
    (leb-true 1 zone zones.0, leb-true zone 16 zones.1, small_change 999 count.adults adults few.0 counts.0, small_change 999 count.children children few.1 others.0, small_change 999 count.infants infants few.2 others.1)
change_spelled f (Loose name mass pieces) w e named =
    let load = load_at name f.loose in
    let within = found_load IsLooseWithin (is_at name) f.loose (nothing_at name) (omega arith, omega arith) w.loose in
    let parts = and_parts (stays_within 1000000 load.mass.0 mass) (stays_within 999 load.pieces pieces && nat_le (count_with name f.loose) 64) e in
    let others = and_parts (stays_within 999 load.pieces pieces) (nat_le (count_with name f.loose) 64) parts.1 in
    (named, small_change 1000000 load.mass.0 mass within.0 parts.0, small_change 999 load.pieces pieces within.1 others.0)

changes_spelled : (f : Figures) (changes : List Lmc) → AreWithin f → can_add_all f changes ≡ true → All IsNamedChange changes → All IsSpelledChange changes
changes_spelled f [] w e named = All-nil IsSpelledChange
changes_spelled f (l ∷ changes) w e named =
    let parts = and_parts (can_add f l) (can_add_all (with_change f l) changes) e in
    All-cons IsSpelledChange l changes (change_spelled f l w parts.0 (All-head IsNamedChange l changes named))
    (changes_spelled (with_change f l) changes (within_change f l parts.0 w) parts.1 (All-tail IsNamedChange l changes named))

-- the names of a plan
plan_spelled : (ps : List Position) (plan : Option (ArrayVec ℕ)) → All (λ (q : Position). IsName q.name) ps → IfSome plan (λ (p : ArrayVec ℕ). All (λ q. q < length ps) p.items) → IfSome plan (λ (p : ArrayVec ℕ). length p.items ≤ 60) → IfSome (option_map (λ (p : ArrayVec ℕ). map (name_at ps) p.items) plan) IsSpelledPlan
plan_spelled ps None named known few = tt
plan_spelled ps (Some plan) named known few = record {
  few = let long = length-map plan.items (name_at ps) in omega (arith, long, few);
  each = All-map IsName (name_at ps) plan.items (All-weaker (λ q. q < length ps) (λ q. IsName (name_at ps q)) (λ q within. subst IsName (sym (name_at-is ps q some_position within)) (named q some_position within)) plan.items known);
}

-- the registration of the flight is that of its aircraft
find_passes : (test : Craft → Bool) (fleet : List Craft) (a : Craft) → find test fleet ≡ Some a → test a ≡ true
find_passes test [] a e = absurd (cc (e))
find_passes test (b ∷ fleet) a e = ⊎_elim
    (λ (yes : test b ≡ true).
    let same : b ≡ a = same_Some b a (sym (cond-true (test b) (Some b) (find test fleet) yes) ∙ e) in
    ap test (sym same) ∙ yes)
    (λ (no : test b ≡ false). find_passes test fleet a (sym (cond-false (test b) (Some b) (find test fleet) no) ∙ e))
    (cases_Bool (test b))

registered : (fleet : List Craft) (leg : Leg) (a : Craft) → IsLawfulCraft a → aircraft_of fleet leg ≡ Some a → is_registration leg.registration ≡ true
registered fleet leg a lawful found =
    let same : a.registration ≡ leg.registration = (bytes_eq-Decides a.registration leg.registration).0 (find_passes (λ (b : Craft). bytes_eq b.registration leg.registration) fleet a found) in
    ap is_registration (sym same) ∙ lawful.limits.figures.registration

pub read_back : (fleet : List Craft) (a : Craft) (s : FlightState) (text : List ℕ) → HasRow a s → IsLawfulCraft a → text ≡ row_text Two (row_of a s) → (is_registration s.leg.registration ≡ true → IsSpelledLeg s.leg)
    → All (λ (item : Item). IsUldId item.id) s.base.containers → All (λ (load : LooseFigure). IsName load.position) s.base.loose → All (λ (q : Position). IsName q.name) a.hold.positions
    → IfSome s.plan (λ (p : ArrayVec ℕ). length p.items ≤ 60) → All IsNamedChange s.lmcs → length s.lmcs ≤ 10 → aircraft_of fleet s.leg ≡ Some a → KeepsPlan a s → Reads fleet text s
read_back fleet a s text h lawful e leg items loads positions few changes short found keeps =
    let within : AreWithin s.base = record { passengers = h.limits.figures.passengers; few = h.limits.figures.loose; loose = h.limits.loose } in
    let texts : HasTexts a s = record {
      leg = leg (registered fleet s.leg a lawful found);
      containers = items;
      loads = loads;
      plan = plan_spelled a.hold.positions s.plan positions h.known few;
      changes = record { few = short; each = changes_spelled s.base s.lmcs within h.limits.changes changes; can_be_made = h.limits.changes; for_stage = h.changes };
    } in
    subst (λ (t : List ℕ). Reads fleet t s) (sym e) (reads_again fleet a s h keeps texts found)
