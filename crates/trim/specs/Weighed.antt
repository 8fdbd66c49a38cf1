-- a flight as its figures weigh it, and the window that its envelopes leave
use Rattle.std.specs.Prelude.{◌≡◌, ◌≤◌, ◌⊎◌, unsigned_abs}
use Rattle.std.specs.Int.{int_max, int_min}
use Rattle.mass_units.specs.declared.Band.{Band}
use Rattle.mass_limits.specs.Masses.{CanBeWeighed, zero_fuel_mass, take_off_mass, landing_mass}
use Rattle.aircraft_file.specs.Craft.{Craft}
use Rattle.trim.specs.declared.figures.Figures.{Figures}
use Rattle.trim.specs.declared.fault.TrimFault.{TrimFault}
use Rattle.trim.specs.declared.fault.TrimFault.TheVariants.{NoWindow}
use Rattle.trim.specs.declared.weighing.Weighed.{Weighed}
use Rattle.trim.specs.Loads.{loose_loads}
use Rattle.trim.specs.Balance.{mass_input, zero_fuel_base, IsTakeOffBase, IsLandingBase}
use Rattle.trim.specs.Points.{IsClosed, IsOpen, IsRoom, Rooms}
use Rattle.trim.specs.Refusals as refusals

-- the bases lie within 10,000,000,000 index units either way
pub record AreNear (w : Weighed) : Type 0 where
  pub zero_fuel : unsigned_abs w.zero_fuel_base.0 ≤ 1000000000000000
  pub take_off : unsigned_abs w.take_off_base.0 ≤ 1000000000000000
  pub landing : unsigned_abs w.landing_base.0 ≤ 1000000000000000

-- the flight of these figures, weighed
pub record IsWeighed (a : Craft) (f : Figures) (w : Weighed) : Type 0 where
  pub right : refusals.CanBeWeighed a f
  pub input : w.input ≡ mass_input a f
  pub zero_fuel : w.zero_fuel_base.0 ≡ zero_fuel_base a f
  pub take_off : IsTakeOffBase a f w.take_off_base.0
  pub landing : IsLandingBase a f w.landing_base.0
  pub loose : w.loose.items ≡ loose_loads a f
  -- its masses are numbers of 32 bits
  pub masses : CanBeWeighed w.input
  pub near : AreNear w

-- the rooms that the envelopes leave a weighed flight
pub record AreRoomsFor (a : Craft) (w : Weighed) (rooms : Rooms) : Type 0 where
  pub zero_fuel : IsRoom a.zero_fuel (zero_fuel_mass w.input) w.zero_fuel_base.0 rooms.zero_fuel
  pub take_off : IsRoom a.take_off (take_off_mass w.input) w.take_off_base.0 rooms.take_off
  pub landing : IsRoom a.landing (landing_mass w.input) w.landing_base.0 rooms.landing

-- the window is what they have in common
pub record IsWindowFor (a : Craft) (w : Weighed) (window : Band) : Type 0 where
  pub rooms : Rooms
  pub rooms_are : AreRoomsFor a w rooms
  pub low : window.low.0 ≡ int_max (int_max rooms.zero_fuel.low.0 rooms.take_off.low.0) rooms.landing.low.0
  pub high : window.high.0 ≡ int_min (int_min rooms.zero_fuel.high.0 rooms.take_off.high.0) rooms.landing.high.0

-- it has none: this is the first envelope that is closed
abbrev pub IsNoWindowFor : Craft → Weighed → TrimFault → Type 0
IsNoWindowFor a w fault =
    ((fault ≡ NoWindow 1) × IsClosed a.zero_fuel (zero_fuel_mass w.input))
    ⊎ (((fault ≡ NoWindow 2) × IsOpen a.zero_fuel (zero_fuel_mass w.input) × IsClosed a.take_off (take_off_mass w.input))
    ⊎ ((fault ≡ NoWindow 3) × IsOpen a.zero_fuel (zero_fuel_mass w.input) × IsOpen a.take_off (take_off_mass w.input) × IsClosed a.landing (landing_mass w.input)))
