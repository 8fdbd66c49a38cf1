-- a path is admissible for the task of a flight exactly where it is for the flight
use Rattle.std.proofs.Common.{◌≡◌, ◌↔◌, ⊎_elim, ℕ, ℤ, ◌+ℤ◌, List, refl, ap, sym, ◌∙◌, subst, inl, inr}
use Rattle.mass_limits.specs.Masses.{zero_fuel_mass, take_off_mass, landing_mass}
use Rattle.mass_units.specs.declared.Band.{Band}
use Rattle.mass_units.specs.declared.Ticks.{Ticks}
use Rattle.mass_limits.specs.declared.figures.MassInput.{MassInput}
use Rattle.hold_parts.specs.declared.parts.Item.{Item}
use Rattle.hold_parts.specs.declared.parts.Loose.{Loose}
use Rattle.hold_limits.specs.Layout.{Layout}
use Rattle.hold_limits.specs.Problem.{Problem, problem_of, indices_of}
use Rattle.hold_limits.specs.Placement.{IsSound, IsAdmissible, hold_index, take_off_index}
use Rattle.aircraft_file.specs.Craft.{Craft}
use Rattle.trim.specs.declared.figures.Figures.{Figures}
use Rattle.trim.specs.declared.fault.TrimFault.{TrimFault}
use Rattle.trim.specs.declared.weighing.Weighed.{Weighed}
use Rattle.trim.specs.Loads.{offer}
use Rattle.trim.specs.Balance.{mass_input, IsTakeOffBase, IsTakeOffIndex}
use Rattle.trim.specs.Points.{IsFlightAdmissible, IsClosed, IsOpen, IsRoom, Rooms, AreRooms}
use Rattle.trim.specs.Refusals.{HasParts, IsFirstClosed, IsRefused}
use Rattle.trim.specs.Weighed.{IsWeighed, AreRoomsFor, IsWindowFor, IsNoWindowFor}
use Rattle.trim.proofs.PointLemmas.{window-is}

-- the offer of a flight with the indices of a task
abbrev with_indices : Problem → Problem → Problem
with_indices o t = record {
  hold = o.hold;
  items = o.items;
  loose = o.loose;
  base = t.base;
  low = t.low;
  high = t.high;
  ideal_low = t.ideal_low;
  ideal_high = t.ideal_high;
}

task-is : (a : Craft) (f : Figures) (t : Problem) → HasParts a f t → t ≡ with_indices (offer a f) t
task-is a f t parts = λ i. record {
  hold = parts.hold i;
  items = parts.items i;
  loose = parts.loose i;
  base = t.base;
  low = t.low;
  high = t.high;
  ideal_low = t.ideal_low;
  ideal_high = t.ideal_high;
}

-- soundness asks for no index
sound-to : (o t : Problem) (path : List ℕ) → IsSound (with_indices o t) path → IsSound o path
sound-to o t path s = record { short = s.short; accepted = s.accepted; apart = s.apart; compatible = s.compatible; combined = s.combined; cumulative = s.cumulative }

sound-from : (o t : Problem) (path : List ℕ) → IsSound o path → IsSound (with_indices o t) path
sound-from o t path s = record { short = s.short; accepted = s.accepted; apart = s.apart; compatible = s.compatible; combined = s.combined; cumulative = s.cumulative }

pub admissible-is : (a : Craft) (f : Figures) (t : Problem) → HasParts a f t → (path : List ℕ) → IsAdmissible t path ↔ IsFlightAdmissible a f path
admissible-is a f t parts path =
    let u : Problem = with_indices (offer a f) t in
    let same : t ≡ u = task-is a f t parts in
    let window = window-is a f parts.rooms t.low t.high path parts.rooms_are parts.low parts.high in
    let P : Problem → Type 0 = λ x. IsAdmissible x path in (
      λ admissible.
          let ok : IsAdmissible u path = subst P same admissible in
          let inside = window.0 (ok.low, ok.high) in
          record {
            sound = sound-to (offer a f) t path ok.sound;
            complete = ok.complete;
            zero_fuel = inside.0;
            take_off = inside.1;
            landing = inside.2;
            lateral = ok.lateral;
          },
      λ flight.
          let within = window.1 (flight.zero_fuel, flight.take_off, flight.landing) in
          let ok : IsAdmissible u path = record {
            sound = sound-from (offer a f) t path flight.sound;
            complete = flight.complete;
            low = within.0;
            high = within.1;
            lateral = flight.lateral;
          } in
          subst P (sym same) ok,
    )

pub take_off-is : (a : Craft) (f : Figures) (t : Problem) → HasParts a f t → (path : List ℕ) → IsTakeOffIndex a f path (take_off_index t path)
take_off-is a f t parts path =
    let same = task-is a f t parts in
    (t.base, parts.base, ap (λ (x : Problem). t.base +ℤ hold_index x path) same)

-- where an envelope is closed no path is admissible
pub closed-none : (a : Craft) (f : Figures) (which : ℕ) (path : List ℕ) → IsFirstClosed which a f → ¬ (IsFlightAdmissible a f path)
closed-none a f which path closed flight = ⊎_elim
    (λ first. first.1 _ flight.zero_fuel)
    (λ later. ⊎_elim
    (λ second. second.2 flight.take_off.0 flight.take_off.2)
    (λ third. third.3 flight.landing.0 flight.landing.2)
    later)
    closed

-- The parts of the task ---------------------------------------------------------------------------

rooms-are : (a : Craft) (f : Figures) (w : Weighed) (rooms : Rooms) → IsWeighed a f w → AreRoomsFor a w rooms → AreRooms a f rooms
rooms-are a f w rooms is are = record {
  zero_fuel = subst (λ (z : ℤ). IsRoom a.zero_fuel (zero_fuel_mass (mass_input a f)) z rooms.zero_fuel) is.zero_fuel
      (subst (λ (m : MassInput). IsRoom a.zero_fuel (zero_fuel_mass m) w.zero_fuel_base.0 rooms.zero_fuel) is.input are.zero_fuel);
  take_off = (w.take_off_base.0, is.take_off, subst (λ (m : MassInput). IsRoom a.take_off (take_off_mass m) w.take_off_base.0 rooms.take_off) is.input are.take_off);
  landing = (w.landing_base.0, is.landing, subst (λ (m : MassInput). IsRoom a.landing (landing_mass m) w.landing_base.0 rooms.landing) is.input are.landing);
}

pub parts-are : (a : Craft) (f : Figures) (w : Weighed) (window : Band) (hold : Layout) (items : List Item) (loose : List Loose) (low high : Ticks) (t : Problem) → IsWeighed a f w → IsWindowFor a w window
    → hold ≡ a.hold → items ≡ f.containers → loose ≡ w.loose.items → low ≡ a.ideal.low → high ≡ a.ideal.high
    → t ≡ problem_of hold items loose (indices_of w.take_off_base window.low window.high low high) → HasParts a f t
parts-are a f w window hold items loose low high t is room same_hold same_items same_loose same_low same_high made = record {
  hold = ap (λ (x : Problem). x.hold) made ∙ same_hold;
  items = ap (λ (x : Problem). x.items) made ∙ same_items;
  loose = ap (λ (x : Problem). x.loose) made ∙ same_loose ∙ is.loose;
  base = subst (IsTakeOffBase a f) (sym (ap (λ (x : Problem). x.base) made)) is.take_off;
  rooms = room.rooms;
  rooms_are = rooms-are a f w room.rooms is room.rooms_are;
  low = ap (λ (x : Problem). x.low) made ∙ room.low;
  high = ap (λ (x : Problem). x.high) made ∙ room.high;
  ideal_low = ap (λ (x : Problem). x.ideal_low) made ∙ ap (λ (z : Ticks). z.0) same_low;
  ideal_high = ap (λ (x : Problem). x.ideal_high) made ∙ ap (λ (z : Ticks). z.0) same_high;
}

-- an envelope that is closed to a weighed flight
pub closed-refused : (a : Craft) (f : Figures) (w : Weighed) (fault : TrimFault) → IsWeighed a f w → IsNoWindowFor a w fault → IsRefused a f fault
closed-refused a f w fault is closed =
    let Z : MassInput → Type 0 = λ m. IsClosed a.zero_fuel (zero_fuel_mass m) in
    let T : MassInput → Type 0 = λ m. IsOpen a.zero_fuel (zero_fuel_mass m) × IsClosed a.take_off (take_off_mass m) in
    let L : MassInput → Type 0 = λ m. IsOpen a.zero_fuel (zero_fuel_mass m) × (IsOpen a.take_off (take_off_mass m) × IsClosed a.landing (landing_mass m)) in
    ⊎_elim
    (λ first. subst (IsRefused a f) (sym first.0) (is.right, inl (refl, subst Z is.input first.1)))
    (λ later. ⊎_elim
    (λ second.
    let t = subst T is.input (second.1, second.2) in
    subst (IsRefused a f) (sym second.0) (is.right, inr (inl (refl, t.0, t.1))))
    (λ third.
    let l = subst L is.input (third.1, (third.2, third.3)) in
    subst (IsRefused a f) (sym third.0) (is.right, inr (inr (refl, l.0, l.1.0, l.1.1))))
    later)
    closed
