-- where the three points of a flight lie in its envelopes; a point is a mass with an index
use Rattle.std.specs.Prelude.{◌≡◌, ℕ, ℤ, ◌+ℤ◌, ◌≤ℤ◌, ◌↔◌, List, length}
use Rattle.mass_units.specs.declared.Band.{Band}
use Rattle.mass_limits.specs.Masses.{zero_fuel_mass, take_off_mass, landing_mass}
use Rattle.envelope.specs.Outline.{Outline, IsInside}
use Rattle.hold_limits.specs.Placement.{IsSound, KeepsLateralLimit}
use Rattle.aircraft_file.specs.Craft.{Craft}
use Rattle.trim.specs.declared.figures.Figures.{Figures}
use Rattle.trim.specs.Loads.{offer}
use Rattle.trim.specs.Balance.{mass_input, zero_fuel_base, IsTakeOffBase, IsLandingBase, zero_fuel_index, IsTakeOffIndex, IsLandingIndex}

-- the zero-fuel point is inside its envelope, and so for take-off and landing
abbrev pub IsZeroFuelInside : Craft → Figures → List ℕ → Type 0
IsZeroFuelInside a f path = IsInside a.zero_fuel (zero_fuel_mass (mass_input a f)) (zero_fuel_index a f path)

abbrev pub IsTakeOffInside : Craft → Figures → List ℕ → Type 0
IsTakeOffInside a f path = (index : ℤ) × IsTakeOffIndex a f path index × IsInside a.take_off (take_off_mass (mass_input a f)) index

abbrev pub IsLandingInside : Craft → Figures → List ℕ → Type 0
IsLandingInside a f path = (index : ℤ) × IsLandingIndex a f path index × IsInside a.landing (landing_mass (mass_input a f)) index

-- a sound path for all containers, with which the three points are inside their envelopes and the lateral difference is
-- within the limit of the hold, if it has one
pub record IsFlightAdmissible (a : Craft) (f : Figures) (path : List ℕ) : Type 0 where
  pub sound : IsSound (offer a f) path
  pub complete : length path ≡ length f.containers
  pub zero_fuel : IsZeroFuelInside a f path
  pub take_off : IsTakeOffInside a f path
  pub landing : IsLandingInside a f path
  pub lateral : KeepsLateralLimit (offer a f) path

-- Rooms -----------------------------------------------------------------------------------------

-- no index is inside the envelope at the mass; or some is
abbrev pub IsClosed : Outline → ℕ → Type 0
IsClosed outline mass = (z : ℤ) → ¬ (IsInside outline mass z)

abbrev pub IsOpen : Outline → ℕ → Type 0
IsOpen outline mass = (z : ℤ) × IsInside outline mass z

-- the room that an envelope leaves: exactly the hold indices that, added to the base, are inside it at the mass
pub record IsRoom (outline : Outline) (mass : ℕ) (base : ℤ) (room : Band) : Type 0 where
  pub some : room.low.0 ≤ℤ room.high.0
  pub exactly : (z : ℤ) → IsInside outline mass (base +ℤ z) ↔ ((room.low.0 ≤ℤ z) × (z ≤ℤ room.high.0))

-- the rooms that the three envelopes leave a flight
pub record Rooms : Type 0 where
  pub zero_fuel : Band
  pub take_off : Band
  pub landing : Band

pub record AreRooms (a : Craft) (f : Figures) (rooms : Rooms) : Type 0 where
  pub zero_fuel : IsRoom a.zero_fuel (zero_fuel_mass (mass_input a f)) (zero_fuel_base a f) rooms.zero_fuel
  pub take_off : (base : ℤ) × IsTakeOffBase a f base × IsRoom a.take_off (take_off_mass (mass_input a f)) base rooms.take_off
  pub landing : (base : ℤ) × IsLandingBase a f base × IsRoom a.landing (landing_mass (mass_input a f)) base rooms.landing
