-- How much more the flight could take, and which limit decides it.
use Rattle.std.specs.Prelude.{ℕ, ◌+◌, min, Bool, ◌==◌, List, [], ◌∷◌, ℤ, pos, ◌-ℤ◌}
use Rattle.mass_limits.specs.Masses.{take_off_mass}
use Rattle.mass_limits.specs.declared.figures.MassInput.{MassInput}
use Rattle.mass_limits.specs.declared.figures.Certified.{Certified}
use Rattle.mass_limits.specs.declared.figures.Limiting.{Limiting}
use Rattle.mass_limits.specs.declared.figures.Limiting.TheVariants.{ZeroFuel, TakeOff, Landing}

-- the greatest take-off mass that keeps one limit: the fuel on board comes on top of the zero-fuel
-- limit, and the trip fuel, burned by then, on top of the landing limit
abbrev pub allowance : MassInput → Certified → Limiting → ℕ
allowance m c ZeroFuel = c.zero_fuel.0 + m.take_off_fuel.0
allowance m c TakeOff = m.regulated_take_off.0
allowance m c Landing = m.regulated_landing.0 + m.trip.0

-- the greatest take-off mass that keeps all three limits
abbrev pub allowed_take_off : MassInput → Certified → ℕ
allowed_take_off m c = min (allowance m c ZeroFuel) (min (allowance m c TakeOff) (allowance m c Landing))

-- the allowed take-off mass less the take-off mass; below zero it is how far the flight is over the limit
abbrev pub underload_of : MassInput → Certified → ℤ
underload_of m c = pos (allowed_take_off m c) -ℤ pos (take_off_mass m)

-- the limits in the order in which the first of equal ones is reported
abbrev pub limits : List Limiting
limits = ZeroFuel ∷ TakeOff ∷ Landing ∷ []

-- the limit allows exactly the allowed take-off mass
abbrev pub is_least : MassInput → Certified → Limiting → Bool
is_least m c limit = allowance m c limit == allowed_take_off m c
