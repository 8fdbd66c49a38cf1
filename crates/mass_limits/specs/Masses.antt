-- The masses of a flight in kilograms, each the sum of its components.
use Rattle.std.specs.Prelude.{ℕ, ◌+◌, ◌-◌, ◌^◌, ◌<◌, ◌≤◌}
use Rattle.mass_limits.specs.declared.figures.MassInput.{MassInput}
use Rattle.mass_limits.specs.declared.figures.Masses.{Masses}

-- the aircraft ready for the flight, with its traffic load and no usable fuel
abbrev pub zero_fuel_mass : MassInput → ℕ
zero_fuel_mass m = m.dry.0 + m.traffic.0

-- the aircraft as it lifts off, with the take-off fuel
abbrev pub take_off_mass : MassInput → ℕ
take_off_mass m = zero_fuel_mass m + m.take_off_fuel.0

-- the aircraft as it leaves the stand, with the taxi fuel too
abbrev pub ramp_mass : MassInput → ℕ
ramp_mass m = take_off_mass m + m.taxi.0

-- the aircraft as it lands, with the trip fuel burned
abbrev pub landing_mass : MassInput → ℕ
landing_mass m = take_off_mass m - m.trip.0

-- all four
abbrev pub masses_of : MassInput → Masses
masses_of m = record {
  ramp = record { 0 = ramp_mass m };
  zero_fuel = record { 0 = zero_fuel_mass m };
  take_off = record { 0 = take_off_mass m };
  landing = record { 0 = landing_mass m };
}

-- the trip burns only fuel that is on board, and the greatest of the four masses fits in 32 bits
pub record CanBeWeighed (m : MassInput) : Type 0 where
  pub trip_on_board : m.trip.0 ≤ m.take_off_fuel.0
  pub ramp_fits : ramp_mass m < 2 ^ 32
