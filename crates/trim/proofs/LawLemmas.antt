-- one task, one balance and one list of broken rules
use Rattle.std.proofs.Common.{◌≡◌, ◌↔◌, ⊎_elim, ℕ, ℤ, ◌+ℤ◌, Bool, true, false, not, IsTrue, List, [], ◌∷◌, length, filter, Contains, Some, refl, ap, ap₂, sym, ◌∙◌, subst, arith, rules as std_rules}
use Rattle.std.proofs.lemmas.Bool.{cases_Bool}
use Rattle.std.proofs.lemmas.Int.{ints}
use Rattle.std.proofs.lemmas.List.Elements.{All-contains, All-nil, All-cons, filter_agree, filter_passes}
use Rattle.std.specs.Int.{int_max, int_min}
use Rattle.std.specs.Int.Signed.{≤ℤ_refl}
use Rattle.mass_units.specs.declared.Band.{Band}
use Rattle.mass_limits.specs.Masses.{take_off_mass, landing_mass}
use Rattle.envelope.specs.Outline.{Outline}
use Rattle.hold_limits.specs.Faults.{task_fault}
use Rattle.hold_limits.specs.Placement.{hold_index}
use Rattle.hold_limits.specs.Problem.{Problem}
use Rattle.aircraft_file.specs.Craft.{Craft}
use Rattle.trim.specs.declared.figures.Figures.{Figures}
use Rattle.trim.specs.declared.fault.TrimFault.{TrimFault}
use Rattle.trim.specs.declared.fault.TrimFault.TheVariants as fault_of
use Rattle.trim.specs.declared.rules.Rule.{Rule}
use Rattle.trim.specs.declared.rules.Rule.TheVariants.{Ramp, ZeroFuel, TakeOff, Landing, Regulated, ZeroFuelEnvelope, TakeOffEnvelope, LandingEnvelope, Hold, Lateral}
use Rattle.trim.specs.Loads.{offer}
use Rattle.trim.specs.Balance.{mass_input, landing_fuel, IsBaseWith}
use Rattle.trim.specs.Points.{IsFlightAdmissible, IsClosed, IsRoom, AreRooms, Rooms}
use Rattle.trim.specs.Refusals.{HasParts, IsTaskOf, IsRefused, IsFirstClosed}
use Rattle.trim.specs.Rules.{all_rules, Keeps, AreBroken}
use Rattle.trim.specs.Laws.{plan_rules, KeepsPlanRules}
use Rattle.trim.proofs.PointLemmas.{base-once}
use Rattle.trim.proofs.RuleLemmas.{kept, is-true, false-is}

-- Indices -----------------------------------------------------------------------------------------

pub index-once : (fuel : ℕ) (a : Craft) (f : Figures) (path : List ℕ) (x y : ℤ)
    → (base : ℤ) × IsBaseWith fuel a f base × (x ≡ base +ℤ hold_index (offer a f) path)
    → (base : ℤ) × IsBaseWith fuel a f base × (y ≡ base +ℤ hold_index (offer a f) path) → x ≡ y
index-once fuel a f path x y one other =
    one.2 ∙ ap (λ z. z +ℤ hold_index (offer a f) path) (base-once fuel a f one.0 other.0 one.1 other.1) ∙ sym other.2

-- The task ----------------------------------------------------------------------------------------

-- an envelope leaves one room
room-once : (o : Outline) (mass : ℕ) (base : ℤ) (r s : Band) → IsRoom o mass base r → IsRoom o mass base s → (r.low.0 ≡ s.low.0) × (r.high.0 ≡ s.high.0)
room-once o mass base r s one other =
    let a = (other.exactly r.low.0).0 ((one.exactly r.low.0).1 (≤ℤ_refl r.low.0, one.some)) in
    let b = (one.exactly s.low.0).0 ((other.exactly s.low.0).1 (≤ℤ_refl s.low.0, other.some)) in
    let c = (other.exactly r.high.0).0 ((one.exactly r.high.0).1 (one.some, ≤ℤ_refl r.high.0)) in
    let d = (one.exactly s.high.0).0 ((other.exactly s.high.0).1 (other.some, ≤ℤ_refl s.high.0)) in
    (omega (arith, ints, a.0, b.0), omega (arith, ints, c.1, d.1))

room-with : (fuel : ℕ) (o : Outline) (mass : ℕ) (a : Craft) (f : Figures) (r s : Band) → (base : ℤ) × IsBaseWith fuel a f base × IsRoom o mass base r → (base : ℤ) × IsBaseWith fuel a f base × IsRoom o mass base s
    → (r.low.0 ≡ s.low.0) × (r.high.0 ≡ s.high.0)
room-with fuel o mass a f r s one other =
    let same = base-once fuel a f one.0 other.0 one.1 other.1 in
    room-once o mass other.0 r s (subst (λ (z : ℤ). IsRoom o mass z r) same one.2) other.2

three : (g : ℤ → ℤ → ℤ) (x y z p q r : ℤ) → x ≡ p → y ≡ q → z ≡ r → g (g x y) z ≡ g (g p q) r
three g x y z p q r xp yq zr = ap₂ g (ap₂ g xp yq) zr

parts-once : (a : Craft) (f : Figures) (t u : Problem) → HasParts a f t → HasParts a f u → t ≡ u
parts-once a f t u one other =
    let zero_fuel = room-once _ _ _ _ _ one.rooms_are.zero_fuel other.rooms_are.zero_fuel in
    let take_off = room-with f.fuel.take_off.0 a.take_off (take_off_mass (mass_input a f)) a f one.rooms.take_off other.rooms.take_off one.rooms_are.take_off other.rooms_are.take_off in
    let landing = room-with (landing_fuel f) a.landing (landing_mass (mass_input a f)) a f one.rooms.landing other.rooms.landing one.rooms_are.landing other.rooms_are.landing in
    let hold = one.hold ∙ sym other.hold in
    let items = one.items ∙ sym other.items in
    let loose = one.loose ∙ sym other.loose in
    let base : t.base ≡ u.base = base-once f.fuel.take_off.0 a f t.base u.base one.base other.base in
    let low : t.low ≡ u.low = one.low ∙ three int_max _ _ _ _ _ _ zero_fuel.0 take_off.0 landing.0 ∙ sym other.low in
    let high : t.high ≡ u.high = one.high ∙ three int_min _ _ _ _ _ _ zero_fuel.1 take_off.1 landing.1 ∙ sym other.high in
    let ideal_low = one.ideal_low ∙ sym other.ideal_low in
    let ideal_high = one.ideal_high ∙ sym other.ideal_high in
    λ i. record {
      hold = hold i;
      items = items i;
      loose = loose i;
      base = base i;
      low = low i;
      high = high i;
      ideal_low = ideal_low i;
      ideal_high = ideal_high i;
    }

pub task-once : (a : Craft) (f : Figures) (t u : Problem) → IsTaskOf a f t → IsTaskOf a f u → t ≡ u
task-once a f t u one other = parts-once a f t u one.parts other.parts

-- a room has a hold index that is inside
room-open : (o : Outline) (mass : ℕ) (base : ℤ) (r : Band) → IsRoom o mass base r → ¬ (IsClosed o mass)
room-open o mass base r room closed = closed (base +ℤ r.low.0) ((room.exactly r.low.0).1 (≤ℤ_refl r.low.0, room.some))

never-closed : (a : Craft) (f : Figures) (rooms : Rooms) (which : ℕ) → AreRooms a f rooms → ¬ (IsFirstClosed which a f)
never-closed a f rooms which are closed = ⊎_elim
    (λ first. room-open _ _ _ _ are.zero_fuel first.1)
    (λ later. ⊎_elim (λ second. room-open _ _ _ _ are.take_off.2 second.2) (λ third. room-open _ _ _ _ are.landing.2 third.3) later)
    closed

-- a flight with a task is refused only where memory runs out
pub unrefused : (a : Craft) (f : Figures) (t : Problem) (fault : TrimFault) → IsTaskOf a f t → IsRefused a f fault → fault ≡ fault_of.NoMemory
unrefused a f t (fault_of.FuelOut fuel) task out =
    absurd (⊎_elim (λ first. task.weighed.fuel.take_off first.1) (λ second. task.weighed.fuel.landing second.2) out)
unrefused a f t (fault_of.Pay pay) task refused = absurd (task.weighed.cabin pay refused.1)
unrefused a f t (fault_of.LooseName at) task refused = let none = task.weighed.loose in let some = refused.2 in cc
unrefused a f t (fault_of.NoWindow which) task refused = absurd (never-closed a f task.parts.rooms which task.parts.rooms_are refused.1)
unrefused a f t (fault_of.Task fault) task refused =
    let same = parts-once a f t refused.1 task.parts refused.2 in
    let none = task.right in
    let some : task_fault t ≡ Some fault = ap task_fault same ∙ refused.3 in
    cc
unrefused a f t fault_of.NoMemory task refused = refl

-- The rules ---------------------------------------------------------------------------------------

same-test : (b c : Bool) → (IsTrue b → IsTrue c) → (IsTrue c → IsTrue b) → b ≡ c
same-test true c to from = sym (true-of c (to (is-true true refl)))
  where
    true-of : (c : Bool) → IsTrue c → c ≡ true
    true-of true h = refl
    true-of false h = absurd (search std_rules)
same-test false c to from = sym (false-is c (λ h. absurd (search (std_rules, from h))))

pub list-once : (a : Craft) (f : Figures) (path : List ℕ) (one other : List Rule) → AreBroken a f path one → AreBroken a f path other → one ≡ other
list-once a f path one other x y =
    let same : (rule : Rule) → not (x.keeps rule) ≡ not (y.keeps rule) = λ rule.
    ap not (same-test (x.keeps rule) (y.keeps rule) (λ h. (y.tells rule).1 ((x.tells rule).0 h)) (λ h. (x.tells rule).1 ((y.tells rule).0 h))) in
    x.found_is ∙ filter_agree (λ (rule : Rule). not (x.keeps rule)) (λ (rule : Rule). not (y.keeps rule)) same all_rules ∙ sym y.found_is

each-rule : (rule : Rule) → Contains all_rules rule
each-rule Ramp = (0, omega arith, refl)
each-rule ZeroFuel = (1, omega arith, refl)
each-rule TakeOff = (2, omega arith, refl)
each-rule Landing = (3, omega arith, refl)
each-rule Regulated = (4, omega arith, refl)
each-rule ZeroFuelEnvelope = (5, omega arith, refl)
each-rule TakeOffEnvelope = (6, omega arith, refl)
each-rule LandingEnvelope = (7, omega arith, refl)
each-rule Hold = (8, omega arith, refl)
each-rule Lateral = (9, omega arith, refl)

not-false : (b : Bool) → not b ≡ true → b ≡ false
not-false true is = cc
not-false false is = refl

not-kept : (b : Bool) → b ≡ false → not b ≡ true
not-kept true is = cc
not-kept false is = refl

fails : (b : Bool) → b ≡ false → ¬ (IsTrue b)
fails true is h = cc
fails false is h = search std_rules

pub listed-is : (a : Craft) (f : Figures) (path : List ℕ) (found : List Rule) (rule : Rule) → AreBroken a f path found → Contains found rule ↔ ¬ (Keeps a f path rule)
listed-is a f path found rule are =
    let p : Rule → Bool = λ r. not (are.keeps r) in
    let P : Rule → Type 0 = λ r. p r ≡ true in
    let C : List Rule → Type 0 = λ xs. Contains xs rule in
    let at = each-rule rule in (
      λ listed keeps.
          let passes : p rule ≡ true = All-contains P (filter p all_rules) rule (filter_passes p all_rules) (subst C are.found_is listed) in
          fails (are.keeps rule) (not-false (are.keeps rule) passes) ((are.tells rule).1 keeps),
      λ broken.
          let passes : p rule ≡ true = not-kept (are.keeps rule) (false-is (are.keeps rule) (λ h. broken ((are.tells rule).0 h))) in
          subst C (sym are.found_is) (kept p all_rules rule at.0 passes at.1 at.2),
    )

-- a rule that is not listed is kept
unlisted-keeps : (a : Craft) (f : Figures) (path : List ℕ) (found : List Rule) (rule : Rule) → AreBroken a f path found → ¬ (Contains found rule) → Keeps a f path rule
unlisted-keeps a f path found rule are unlisted = ⊎_elim
    (λ (is : are.keeps rule ≡ true). (are.tells rule).0 (is-true (are.keeps rule) is))
    (λ (other : are.keeps rule ≡ false). absurd (unlisted ((listed-is a f path found rule are).1 (λ keeps. fails (are.keeps rule) other ((are.tells rule).1 keeps)))))
    (cases_Bool (are.keeps rule))

pub flyable-is : (a : Craft) (f : Figures) (path : List ℕ) (found : List Rule) → length path ≡ length f.containers → AreBroken a f path found → KeepsPlanRules found ↔ IsFlightAdmissible a f path
flyable-is a f path found whole are =
    let L : Rule → Type 0 = λ rule. ¬ (Contains found rule) in
    let unlisted : (rule : Rule) → Keeps a f path rule → L rule = λ rule keeps listed. (listed-is a f path found rule are).0 listed keeps in (
      λ none. record {
        sound = unlisted-keeps a f path found Hold are (All-contains L plan_rules Hold none (3, omega arith, refl));
        complete = whole;
        zero_fuel = unlisted-keeps a f path found ZeroFuelEnvelope are (All-contains L plan_rules ZeroFuelEnvelope none (0, omega arith, refl));
        take_off = unlisted-keeps a f path found TakeOffEnvelope are (All-contains L plan_rules TakeOffEnvelope none (1, omega arith, refl));
        landing = unlisted-keeps a f path found LandingEnvelope are (All-contains L plan_rules LandingEnvelope none (2, omega arith, refl));
        lateral = unlisted-keeps a f path found Lateral are (All-contains L plan_rules Lateral none (4, omega arith, refl));
      },
      λ flight.
          All-cons L ZeroFuelEnvelope (TakeOffEnvelope ∷ LandingEnvelope ∷ Hold ∷ Lateral ∷ []) (unlisted ZeroFuelEnvelope flight.zero_fuel)
          (All-cons L TakeOffEnvelope (LandingEnvelope ∷ Hold ∷ Lateral ∷ []) (unlisted TakeOffEnvelope flight.take_off)
          (All-cons L LandingEnvelope (Hold ∷ Lateral ∷ []) (unlisted LandingEnvelope flight.landing)
          (All-cons L Hold (Lateral ∷ []) (unlisted Hold flight.sound)
          (All-cons L Lateral [] (unlisted Lateral flight.lateral) (All-nil L))))),
    )
