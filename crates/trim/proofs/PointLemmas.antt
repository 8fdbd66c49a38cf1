-- the points of a flight, by the bases of its indices; each base is one number
use Rattle.std.proofs.Common.{◌≡◌, ◌↔◌, ℕ, ℤ, ◌+ℤ◌, ◌≤ℤ◌, List, refl, ap, sym, ◌∙◌, subst, arith}
use Rattle.std.proofs.lemmas.Int.{ints, int_max_is, int_min_is}
use Rattle.std.specs.Int.{int_max, int_min}
use Rattle.mass_limits.specs.Masses.{take_off_mass, landing_mass}
use Rattle.envelope.specs.Outline.{Outline, IsInside}
use Rattle.hold_limits.specs.Placement.{hold_index}
use Rattle.aircraft_file.specs.Craft.{Craft}
use Rattle.trim.specs.declared.figures.Figures.{Figures}
use Rattle.trim.specs.Loads.{offer}
use Rattle.trim.specs.Balance.{mass_input, zero_fuel_base, IsBaseWith, landing_fuel}
use Rattle.trim.specs.Points.{IsZeroFuelInside, IsTakeOffInside, IsLandingInside, Rooms, AreRooms}
use Rattle.trim.proofs.BoundLemmas.{fuel-once}

pub base-once : (fuel : ℕ) (a : Craft) (f : Figures) (x y : ℤ) → IsBaseWith fuel a f x → IsBaseWith fuel a f y → x ≡ y
base-once fuel a f x y one other =
    one.2 ∙ ap (λ z. zero_fuel_base a f +ℤ z) (fuel-once a.fuel fuel one.0 other.0 one.1 other.1) ∙ sym other.2

-- an index with this fuel on board: a base with the hold index
abbrev IsIndexWith : ℕ → Craft → Figures → List ℕ → ℤ → Type 0
IsIndexWith fuel a f path index = (base : ℤ) × IsBaseWith fuel a f base × (index ≡ base +ℤ hold_index (offer a f) path)

abbrev IsInsideWith : Outline → ℕ → ℕ → Craft → Figures → List ℕ → Type 0
IsInsideWith o mass fuel a f path = (index : ℤ) × IsIndexWith fuel a f path index × IsInside o mass index

pub inside-with : (o : Outline) (mass fuel : ℕ) (a : Craft) (f : Figures) (path : List ℕ) (base : ℤ) → IsBaseWith fuel a f base
    → IsInsideWith o mass fuel a f path ↔ IsInside o mass (base +ℤ hold_index (offer a f) path)
inside-with o mass fuel a f path base is = (
  λ inside.
      let P : ℤ → Type 0 = IsInside o mass in
      let at = inside.1 in
      subst P (at.2 ∙ ap (λ z. z +ℤ hold_index (offer a f) path) (base-once fuel a f at.0 base at.1 is)) inside.2,
  λ inside. (base +ℤ hold_index (offer a f) path, (base, is, refl), inside),
)

-- a number is at least the greatest of three exactly where it is at least each
greatest-of : (x y z n : ℤ) → (int_max (int_max x y) z ≤ℤ n) ↔ ((x ≤ℤ n) × (y ≤ℤ n) × (z ≤ℤ n))
greatest-of x y z n =
    let first = int_max_is x y in
    let both = int_max_is (int_max x y) z in
    (λ h. (omega (arith, ints), omega (arith, ints), omega (arith, ints)), λ h. omega (arith, ints, h.0, h.1, h.2))

least-of : (x y z n : ℤ) → (n ≤ℤ int_min (int_min x y) z) ↔ ((n ≤ℤ x) × (n ≤ℤ y) × (n ≤ℤ z))
least-of x y z n =
    let first = int_min_is x y in
    let both = int_min_is (int_min x y) z in
    (λ h. (omega (arith, ints), omega (arith, ints), omega (arith, ints)), λ h. omega (arith, ints, h.0, h.1, h.2))

-- the hold index is in the common part of the rooms exactly where all three points are inside
abbrev pub AreInside : Craft → Figures → List ℕ → Type 0
AreInside a f path = IsZeroFuelInside a f path × IsTakeOffInside a f path × IsLandingInside a f path

pub window-is : (a : Craft) (f : Figures) (rooms : Rooms) (low high : ℤ) (path : List ℕ) → AreRooms a f rooms
    → low ≡ int_max (int_max rooms.zero_fuel.low.0 rooms.take_off.low.0) rooms.landing.low.0
    → high ≡ int_min (int_min rooms.zero_fuel.high.0 rooms.take_off.high.0) rooms.landing.high.0
    → ((low ≤ℤ hold_index (offer a f) path) × (hold_index (offer a f) path ≤ℤ high)) ↔ AreInside a f path
window-is a f rooms low high path are low_is high_is =
    let h : ℤ = hold_index (offer a f) path in
    let zero_fuel = are.zero_fuel.exactly h in
    let take_off = are.take_off.2.exactly h in
    let landing = are.landing.2.exactly h in
    let at_take_off = inside-with a.take_off (take_off_mass (mass_input a f)) f.fuel.take_off.0 a f path are.take_off.0 are.take_off.1 in
    let at_landing = inside-with a.landing (landing_mass (mass_input a f)) (landing_fuel f) a f path are.landing.0 are.landing.1 in
    let lows = greatest-of rooms.zero_fuel.low.0 rooms.take_off.low.0 rooms.landing.low.0 h in
    let highs = least-of rooms.zero_fuel.high.0 rooms.take_off.high.0 rooms.landing.high.0 h in (
      λ within.
          let over = lows.0 (subst (λ (z : ℤ). z ≤ℤ h) low_is within.0) in
          let under = highs.0 (subst (λ (z : ℤ). h ≤ℤ z) high_is within.1) in
          (zero_fuel.1 (over.0, under.0), at_take_off.1 (take_off.1 (over.1, under.1)), at_landing.1 (landing.1 (over.2, under.2))),
      λ inside.
          let first = zero_fuel.0 inside.0 in
          let second = take_off.0 (at_take_off.0 inside.1) in
          let third = landing.0 (at_landing.0 inside.2) in (
            subst (λ (z : ℤ). z ≤ℤ h) (sym low_is) (lows.1 (first.0, second.0, third.0)),
            subst (λ (z : ℤ). h ≤ℤ z) (sym high_is) (highs.1 (first.1, second.1, third.1)),
          ),
    )
