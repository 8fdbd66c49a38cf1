-- why the figures of a flight are refused, and the task of those that are not
use Rattle.std.specs.Prelude.{◌≡◌, ℕ, ◌⊎◌, Option, Some, None, position}
use Rattle.std.specs.Int.{int_max, int_min}
use Rattle.mass_units.specs.declared.Kg.{Kg}
use Rattle.mass_limits.specs.Masses.{zero_fuel_mass, take_off_mass, landing_mass}
use Rattle.payload.specs.PayFault.{IsFirstFault}
use Rattle.payload.specs.declared.figures.PayFault.{PayFault}
use Rattle.fuel_table.specs.Rows.{IsOutside}
use Rattle.hold_limits.specs.Faults.{task_fault}
use Rattle.hold_limits.specs.Problem.{Problem}
use Rattle.aircraft_file.specs.Craft.{Craft}
use Rattle.trim.specs.declared.figures.Figures.{Figures}
use Rattle.trim.specs.declared.fault.TrimFault.{TrimFault}
use Rattle.trim.specs.declared.fault.TrimFault.TheVariants.{FuelOut, Pay, LooseName, NoWindow, Task, NoMemory}
use Rattle.trim.specs.Loads.{is_no_load, loose_loads}
use Rattle.trim.specs.Balance.{mass_input, landing_fuel, IsTakeOffBase}
use Rattle.trim.specs.Points.{IsClosed, IsOpen, Rooms, AreRooms}

-- Figures that can be weighed -------------------------------------------------------------------

-- the fuel table has the fuel of take-off and of landing
pub record HasFuel (a : Craft) (f : Figures) : Type 0 where
  pub take_off : ¬ (IsOutside a.fuel f.fuel.take_off.0)
  pub landing : ¬ (IsOutside a.fuel (landing_fuel f))

-- this is the fuel that the table does not have, that of take-off first
abbrev pub IsFuelOut : Kg → Craft → Figures → Type 0
IsFuelOut fuel a f =
    ((fuel ≡ f.fuel.take_off) × IsOutside a.fuel f.fuel.take_off.0)
    ⊎ ((fuel.0 ≡ landing_fuel f) × ¬ (IsOutside a.fuel f.fuel.take_off.0) × IsOutside a.fuel (landing_fuel f))

-- the cabin has no fault
abbrev pub HasCabin : Craft → Figures → Type 0
HasCabin a f = (fault : PayFault) → ¬ (IsFirstFault a.zones f.cabin fault)

-- the place of the first loose figure that is no load, if there is one
abbrev pub first_no_load : Craft → Figures → Option ℕ
first_no_load a f = position (is_no_load a) f.loose

-- the figures have masses and indices
pub record CanBeWeighed (a : Craft) (f : Figures) : Type 0 where
  pub fuel : HasFuel a f
  pub cabin : HasCabin a f
  pub loose : first_no_load a f ≡ None

-- the first reason for which they have none
abbrev pub IsUnweighed : Craft → Figures → TrimFault → Type 0
IsUnweighed a f (FuelOut fuel) = IsFuelOut fuel a f
IsUnweighed a f (Pay fault) = HasFuel a f × IsFirstFault a.zones f.cabin fault
IsUnweighed a f (LooseName at) = HasFuel a f × HasCabin a f × (first_no_load a f ≡ Some at)
IsUnweighed a f (NoWindow which) = ⊥
IsUnweighed a f (Task fault) = ⊥
IsUnweighed a f NoMemory = ⊥

-- The task --------------------------------------------------------------------------------------

-- the number of the first envelope in which no index is inside at the mass of the flight
abbrev pub IsFirstClosed : ℕ → Craft → Figures → Type 0
IsFirstClosed which a f =
    ((which ≡ 1) × IsClosed a.zero_fuel (zero_fuel_mass (mass_input a f)))
    ⊎ (((which ≡ 2) × IsOpen a.zero_fuel (zero_fuel_mass (mass_input a f)) × IsClosed a.take_off (take_off_mass (mass_input a f)))
    ⊎ ((which ≡ 3) × IsOpen a.zero_fuel (zero_fuel_mass (mass_input a f)) × IsOpen a.take_off (take_off_mass (mass_input a f)) × IsClosed a.landing (landing_mass (mass_input a f))))

-- the parts of a flight's task: the hold of its aircraft, its containers, its loose loads, the base of its take-off index,
-- the common part of the rooms that the envelopes leave, and the ideal band of its aircraft
pub record HasParts (a : Craft) (f : Figures) (t : Problem) : Type 0 where
  pub hold : t.hold ≡ a.hold
  pub items : t.items ≡ f.containers
  pub loose : t.loose ≡ loose_loads a f
  pub base : IsTakeOffBase a f t.base
  pub rooms : Rooms
  pub rooms_are : AreRooms a f rooms
  pub low : t.low ≡ int_max (int_max rooms.zero_fuel.low.0 rooms.take_off.low.0) rooms.landing.low.0
  pub high : t.high ≡ int_min (int_min rooms.zero_fuel.high.0 rooms.take_off.high.0) rooms.landing.high.0
  pub ideal_low : t.ideal_low ≡ a.ideal.low.0
  pub ideal_high : t.ideal_high ≡ a.ideal.high.0

-- the task of a flight
pub record IsTaskOf (a : Craft) (f : Figures) (t : Problem) : Type 0 where
  pub weighed : CanBeWeighed a f
  pub parts : HasParts a f t
  pub right : task_fault t ≡ None

-- the first reason for which a flight has no task. Out of memory may come at any time
abbrev pub IsRefused : Craft → Figures → TrimFault → Type 0
IsRefused a f (FuelOut fuel) = IsUnweighed a f (FuelOut fuel)
IsRefused a f (Pay fault) = IsUnweighed a f (Pay fault)
IsRefused a f (LooseName at) = IsUnweighed a f (LooseName at)
IsRefused a f (NoWindow which) = CanBeWeighed a f × IsFirstClosed which a f
IsRefused a f (Task fault) = CanBeWeighed a f × (t : Problem) × HasParts a f t × (task_fault t ≡ Some fault)
IsRefused a f NoMemory = Unit {0}
