-- the masses and the indices of a flight (the index method of FAA-H-8083-1B)
use Rattle.std.specs.Prelude.{◌≡◌, ℕ, ◌+◌, ◌-◌, ℤ, ◌+ℤ◌, List, find, Some}
use Rattle.mass_limits.specs.declared.figures.MassInput.{MassInput}
use Rattle.mass_limits.specs.Masses.{masses_of}
use Rattle.mass_limits.specs.Underload.{underload_of, is_least, limits}
use Rattle.payload.specs.Load.{cabin_mass, cabin_index}
use Rattle.fuel_table.specs.Rows.{IsFuelIndex}
use Rattle.hold_limits.specs.Placement.{hold_index}
use Rattle.aircraft_file.specs.Craft.{Craft}
use Rattle.trim.specs.declared.figures.Figures.{Figures}
use Rattle.trim.specs.declared.balance.Balance.{Balance}
use Rattle.trim.specs.Loads.{loose_loads, container_mass, loose_mass, offer}

-- Masses ----------------------------------------------------------------------------------------

-- the traffic load: the cabin, the containers and the loose loads
abbrev pub traffic_mass : Craft → Figures → ℕ
traffic_mass a f = cabin_mass a.averages f.cabin + container_mass f.containers + loose_mass (loose_loads a f)

-- what the masses of the flight are computed from
abbrev pub mass_input : Craft → Figures → MassInput
mass_input a f = record {
  dry = f.dry.mass;
  traffic = record { 0 = traffic_mass a f };
  taxi = f.fuel.taxi;
  take_off_fuel = f.fuel.take_off;
  trip = f.fuel.trip;
  regulated_take_off = f.regulated.take_off;
  regulated_landing = f.regulated.landing;
}

-- the fuel that is left at landing
abbrev pub landing_fuel : Figures → ℕ
landing_fuel f = f.fuel.take_off.0 - f.fuel.trip.0

-- Indices ---------------------------------------------------------------------------------------

-- a base is an index of the flight without what the hold adds. Of the zero-fuel index it is the dry index and the cabin's
abbrev pub zero_fuel_base : Craft → Figures → ℤ
zero_fuel_base a f = f.dry.index.0 +ℤ cabin_index a.averages a.zones f.cabin

-- with fuel on board the index of the fuel is added
abbrev pub IsBaseWith : ℕ → Craft → Figures → ℤ → Type 0
IsBaseWith fuel a f base = (added : ℤ) × IsFuelIndex a.fuel fuel added × (base ≡ zero_fuel_base a f +ℤ added)

abbrev pub IsTakeOffBase : Craft → Figures → ℤ → Type 0
IsTakeOffBase a f base = IsBaseWith f.fuel.take_off.0 a f base

abbrev pub IsLandingBase : Craft → Figures → ℤ → Type 0
IsLandingBase a f base = IsBaseWith (landing_fuel f) a f base

-- the three indices of a flight whose containers stand on these positions: each base with the hold index
abbrev pub zero_fuel_index : Craft → Figures → List ℕ → ℤ
zero_fuel_index a f path = zero_fuel_base a f +ℤ hold_index (offer a f) path

abbrev pub IsTakeOffIndex : Craft → Figures → List ℕ → ℤ → Type 0
IsTakeOffIndex a f path index = (base : ℤ) × IsTakeOffBase a f base × (index ≡ base +ℤ hold_index (offer a f) path)

abbrev pub IsLandingIndex : Craft → Figures → List ℕ → ℤ → Type 0
IsLandingIndex a f path index = (base : ℤ) × IsLandingBase a f base × (index ≡ base +ℤ hold_index (offer a f) path)

-- the balance of a flight: its masses, its underload, and its three indices
pub record IsBalance (a : Craft) (f : Figures) (path : List ℕ) (b : Balance) : Type 0 where
  pub masses : b.masses ≡ masses_of (mass_input a f)
  pub underload : b.underload.kg ≡ underload_of (mass_input a f) a.certified
  pub limiting : find (is_least (mass_input a f) a.certified) limits ≡ Some b.underload.limiting
  pub zero_fuel : b.zero_fuel.0 ≡ zero_fuel_index a f path
  pub take_off : IsTakeOffIndex a f path b.take_off.0
  pub landing : IsLandingIndex a f path b.landing.0
