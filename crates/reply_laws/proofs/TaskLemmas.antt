-- figures make one task, or none for one reason
use Rattle.std.proofs.Common.{◌≡◌, ⊎_elim, ℕ, ℤ, ◌+ℤ◌, Option, None, Some, refl, ap, ap₂, sym, ◌∙◌, subst, arith}
use Rattle.std.specs.Prelude.{option_map}
use Rattle.std.specs.Int.{int_max, int_min}
use Rattle.std.specs.Int.Signed.{≤ℤ_refl}
use Rattle.std.proofs.lemmas.Int.{ints}
use Rattle.mass_units.specs.declared.Band.{Band}
use Rattle.mass_units.specs.declared.Kg.{Kg}
use Rattle.mass_limits.specs.Masses.{zero_fuel_mass, take_off_mass, landing_mass}
use Rattle.payload.specs.PayFault.{IsFirstFault}
use Rattle.payload.specs.declared.figures.PayFault.{PayFault}
use Rattle.fuel_table.specs.Rows.{IsOutside}
use Rattle.envelope.specs.Outline.{Outline}
use Rattle.hold_limits.specs.Faults.{task_fault}
use Rattle.hold_limits.specs.Problem.{Problem}
use Rattle.hold_limits.specs.declared.fault.TaskFault.{TaskFault}
use Rattle.aircraft_file.specs.Craft.{Craft}
use Rattle.trim.specs.declared.figures.Figures.{Figures}
use Rattle.trim.specs.declared.fault.TrimFault.{TrimFault}
use Rattle.trim.specs.declared.fault.TrimFault.TheVariants as trim
use Rattle.trim.specs.Balance.{mass_input, landing_fuel, IsBaseWith}
use Rattle.trim.specs.Points.{IsClosed, IsOpen, IsRoom}
use Rattle.trim.specs.Refusals.{HasCabin, CanBeWeighed, HasParts, IsTaskOf, IsRefused, first_no_load}
use Rattle.trim.proofs.PointLemmas.{base-once}
use Rattle.reply_laws.proofs.ChainLemmas.{IsOnce, Then, found, passed, then-once}
use Rattle.reply_laws.proofs.PayLemmas.{pay-once}

-- The parts of a task -----------------------------------------------------------------------------

-- an envelope leaves one room
room-once : (o : Outline) (mass : ℕ) (base : ℤ) (r s : Band) → IsRoom o mass base r → IsRoom o mass base s → (r.low.0 ≡ s.low.0) × (r.high.0 ≡ s.high.0)
room-once o mass base r s one other =
    let a = (other.exactly r.low.0).0 ((one.exactly r.low.0).1 (≤ℤ_refl r.low.0, one.some)) in
    let b = (one.exactly s.low.0).0 ((other.exactly s.low.0).1 (≤ℤ_refl s.low.0, other.some)) in
    let c = (other.exactly r.high.0).0 ((one.exactly r.high.0).1 (one.some, ≤ℤ_refl r.high.0)) in
    let d = (one.exactly s.high.0).0 ((other.exactly s.high.0).1 (other.some, ≤ℤ_refl s.high.0)) in
    (omega (arith, ints, a.0, b.0), omega (arith, ints, c.1, d.1))

room-with : (fuel : ℕ) (o : Outline) (mass : ℕ) (a : Craft) (f : Figures) (r s : Band) → (base : ℤ) × IsBaseWith fuel a f base × IsRoom o mass base r → (base : ℤ) × IsBaseWith fuel a f base × IsRoom o mass base s
    → (r.low.0 ≡ s.low.0) × (r.high.0 ≡ s.high.0)
room-with fuel o mass a f r s one other =
    let same = base-once fuel a f one.0 other.0 one.1 other.1 in
    room-once o mass other.0 r s (subst (λ (z : ℤ). IsRoom o mass z r) same one.2) other.2

three : (g : ℤ → ℤ → ℤ) (x y z p q r : ℤ) → x ≡ p → y ≡ q → z ≡ r → g (g x y) z ≡ g (g p q) r
three g x y z p q r xp yq zr = ap₂ g (ap₂ g xp yq) zr

parts-once : (a : Craft) (f : Figures) (t u : Problem) → HasParts a f t → HasParts a f u → t ≡ u
parts-once a f t u one other =
    let zero_fuel = room-once _ _ _ _ _ one.rooms_are.zero_fuel other.rooms_are.zero_fuel in
    let take_off = room-with f.fuel.take_off.0 a.take_off (take_off_mass (mass_input a f)) a f one.rooms.take_off other.rooms.take_off one.rooms_are.take_off other.rooms_are.take_off in
    let landing = room-with (landing_fuel f) a.landing (landing_mass (mass_input a f)) a f one.rooms.landing other.rooms.landing one.rooms_are.landing other.rooms_are.landing in
    let hold = one.hold ∙ sym other.hold in
    let items = one.items ∙ sym other.items in
    let loose = one.loose ∙ sym other.loose in
    let base : t.base ≡ u.base = base-once f.fuel.take_off.0 a f t.base u.base one.base other.base in
    let low : t.low ≡ u.low = one.low ∙ three int_max _ _ _ _ _ _ zero_fuel.0 take_off.0 landing.0 ∙ sym other.low in
    let high : t.high ≡ u.high = one.high ∙ three int_min _ _ _ _ _ _ zero_fuel.1 take_off.1 landing.1 ∙ sym other.high in
    let ideal_low = one.ideal_low ∙ sym other.ideal_low in
    let ideal_high = one.ideal_high ∙ sym other.ideal_high in
    λ i. record {
      hold = hold i;
      items = items i;
      loose = loose i;
      base = base i;
      low = low i;
      high = high i;
      ideal_low = ideal_low i;
      ideal_high = ideal_high i;
    }

-- an envelope that leaves a room is open
room-open : (o : Outline) (mass : ℕ) (base : ℤ) (r : Band) → IsRoom o mass base r → IsOpen o mass
room-open o mass base r room = (base +ℤ r.low.0, (room.exactly r.low.0).1 (≤ℤ_refl r.low.0, room.some))

never-both : (o : Outline) (mass : ℕ) → IsClosed o mass → IsOpen o mass → ⊥
never-both o mass closed room = closed room.0 room.1

-- The reasons in a row ------------------------------------------------------------------------------

-- a mass of so many kilograms
abbrev pub kilograms : ℕ → Kg
kilograms n = record { 0 = n }

-- the tests of figures, in their order: the fuel of take-off and of landing, the cabin, the loose loads, and the three envelopes; at
-- last the task that they make, or its fault
abbrev TaskOr : (a : Craft) (f : Figures) → Option TrimFault → Type 0
TaskOr a f v = (t : Problem) × HasParts a f t × (v ≡ option_map (λ (fault : TaskFault). trim.Task fault) (task_fault t))

abbrev Closed : Outline → ℕ → ℕ → Option TrimFault → Type 0
Closed o mass which v = IsClosed o mass × (v ≡ Some (trim.NoWindow which))

abbrev Envelopes : (a : Craft) (f : Figures) → Option TrimFault → Type 0
Envelopes a f =
    Then (Closed a.zero_fuel (zero_fuel_mass (mass_input a f)) 1) (IsOpen a.zero_fuel (zero_fuel_mass (mass_input a f)))
    (Then (Closed a.take_off (take_off_mass (mass_input a f)) 2) (IsOpen a.take_off (take_off_mass (mass_input a f)))
    (Then (Closed a.landing (landing_mass (mass_input a f)) 3) (IsOpen a.landing (landing_mass (mass_input a f))) (TaskOr a f)))

abbrev Unfuelled : (a : Craft) → ℕ → Option TrimFault → Type 0
Unfuelled a fuel v = IsOutside a.fuel fuel × (v ≡ Some (trim.FuelOut (kilograms fuel)))

abbrev Unseated : (a : Craft) (f : Figures) → Option TrimFault → Type 0
Unseated a f v = (fault : PayFault) × IsFirstFault a.zones f.cabin fault × (v ≡ Some (trim.Pay fault))

abbrev Unplaced : (a : Craft) (f : Figures) → Option TrimFault → Type 0
Unplaced a f v = (at : ℕ) × (first_no_load a f ≡ Some at) × (v ≡ Some (trim.LooseName at))

abbrev Tests : (a : Craft) (f : Figures) → Option TrimFault → Type 0
Tests a f =
    Then (Unfuelled a f.fuel.take_off.0) (¬ (IsOutside a.fuel f.fuel.take_off.0))
    (Then (Unfuelled a (landing_fuel f)) (¬ (IsOutside a.fuel (landing_fuel f)))
    (Then (Unseated a f) (HasCabin a f)
    (Then (Unplaced a f) (first_no_load a f ≡ None) (Envelopes a f))))

closed-once : (o : Outline) (mass which : ℕ) → IsOnce (Closed o mass which)
closed-once o mass which v w h g = h.1 ∙ sym g.1

unfuelled-once : (a : Craft) (fuel : ℕ) → IsOnce (Unfuelled a fuel)
unfuelled-once a fuel v w h g = h.1 ∙ sym g.1

unseated-once : (a : Craft) (f : Figures) → IsOnce (Unseated a f)
unseated-once a f v w h g = h.2 ∙ ap (λ (fault : PayFault). Some (trim.Pay fault)) (pay-once a.zones f.cabin h.0 g.0 h.1 g.1) ∙ sym g.2

unplaced-once : (a : Craft) (f : Figures) → IsOnce (Unplaced a f)
unplaced-once a f v w h g = let one = h.1 in let other = g.1 in let is = h.2 in let was = g.2 in cc

task-or-once : (a : Craft) (f : Figures) → IsOnce (TaskOr a f)
task-or-once a f v w h g = h.2 ∙ ap (λ (t : Problem). option_map (λ (fault : TaskFault). trim.Task fault) (task_fault t)) (parts-once a f h.0 g.0 h.1 g.1) ∙ sym g.2

envelopes-once : (a : Craft) (f : Figures) → IsOnce (Envelopes a f)
envelopes-once a f = then-once _ _ _ (closed-once _ _ 1) (λ v h room. never-both _ _ h.0 room)
    (then-once _ _ _ (closed-once _ _ 2) (λ v h room. never-both _ _ h.0 room)
    (then-once _ _ _ (closed-once _ _ 3) (λ v h room. never-both _ _ h.0 room) (task-or-once a f)))

tests-once : (a : Craft) (f : Figures) → IsOnce (Tests a f)
tests-once a f = then-once _ _ _ (unfuelled-once a f.fuel.take_off.0) (λ v h has. has h.0)
    (then-once _ _ _ (unfuelled-once a (landing_fuel f)) (λ v h has. has h.0)
    (then-once _ _ _ (unseated-once a f) (λ v h right. right h.0 h.1)
    (then-once _ _ _ (unplaced-once a f) (λ v h none. let one = h.1 in absurd (cc (one, none))) (envelopes-once a f))))

-- What is said of figures is what the tests find --------------------------------------------------------

weighed-to : (a : Craft) (f : Figures) (v : Option TrimFault) → CanBeWeighed a f → Envelopes a f v → Tests a f v
weighed-to a f v weighed later = passed weighed.fuel.take_off (passed weighed.fuel.landing (passed weighed.cabin (passed weighed.loose later)))

parted : (a : Craft) (f : Figures) (t : Problem) (v : Option TrimFault) → CanBeWeighed a f → HasParts a f t → v ≡ option_map (λ (fault : TaskFault). trim.Task fault) (task_fault t) → Tests a f v
parted a f t v weighed parts is = weighed-to a f v weighed
    (passed (room-open _ _ _ _ parts.rooms_are.zero_fuel) (passed (room-open _ _ _ _ parts.rooms_are.take_off.2) (passed (room-open _ _ _ _ parts.rooms_are.landing.2) (t, parts, is))))

tested : (a : Craft) (f : Figures) (t : Problem) → IsTaskOf a f t → Tests a f None
tested a f t task = parted a f t None task.weighed task.parts (sym (ap (option_map (λ (fault : TaskFault). trim.Task fault)) task.right))

refused : (a : Craft) (f : Figures) (fault : TrimFault) → (fault ≡ trim.NoMemory → ⊥) → IsRefused a f fault → Tests a f (Some fault)
refused a f (trim.FuelOut fuel) cause h = ⊎_elim
    (λ first. found (first.1, ap (λ (kg : Kg). Some (trim.FuelOut kg)) first.0))
    (λ second. passed second.1 (found (second.2, ap (λ (n : ℕ). Some (trim.FuelOut (kilograms n))) second.0)))
    h
refused a f (trim.Pay fault) cause h = passed h.0.take_off (passed h.0.landing (found (fault, h.1, refl)))
refused a f (trim.LooseName at) cause h = passed h.0.take_off (passed h.0.landing (passed h.1 (found (at, h.2, refl))))
refused a f (trim.NoWindow which) cause h = weighed-to a f (Some (trim.NoWindow which)) h.0 (⊎_elim
    (λ first. found (first.1, ap (λ (n : ℕ). Some (trim.NoWindow n)) first.0))
    (λ later. ⊎_elim
    (λ second. passed second.1 (found (second.2, ap (λ (n : ℕ). Some (trim.NoWindow n)) second.0)))
    (λ third. passed third.1 (passed third.2 (found (third.3, ap (λ (n : ℕ). Some (trim.NoWindow n)) third.0))))
    later)
    h.1)
refused a f (trim.Task fault) cause h = parted a f h.1 (Some (trim.Task fault)) h.0 h.2 (sym (ap (option_map (λ (x : TaskFault). trim.Task x)) h.3))
refused a f trim.NoMemory cause h = absurd (cause refl)

-- a task of the figures, or the first reason for which there is none
abbrev pub SaysOfTask : Craft → Figures → Option TrimFault → Type 0
SaysOfTask a f None = (t : Problem) × IsTaskOf a f t
SaysOfTask a f (Some fault) = IsRefused a f fault × (fault ≡ trim.NoMemory → ⊥)

-- there is one of these
pub said-once : (a : Craft) (f : Figures) → IsOnce (SaysOfTask a f)
said-once a f v w h g = tests-once a f v w (given v h) (given w g)
  where
    given : (v : Option TrimFault) → SaysOfTask a f v → Tests a f v
    given None h = tested a f h.0 h.1
    given (Some fault) h = refused a f fault h.1 h.0
