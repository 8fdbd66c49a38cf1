-- The rules on the masses of a flight.
use Rattle.std.specs.Prelude.{ℕ, Bool, nat_lt, ◌||◌, List, [], ◌∷◌}
use Rattle.mass_limits.specs.Masses.{ramp_mass, zero_fuel_mass, take_off_mass, landing_mass}
use Rattle.mass_limits.specs.declared.figures.MassInput.{MassInput}
use Rattle.mass_limits.specs.declared.figures.Certified.{Certified}
use Rattle.mass_limits.specs.declared.figures.MassRule.{MassRule}
use Rattle.mass_limits.specs.declared.figures.MassRule.TheVariants.{Ramp, ZeroFuel, TakeOff, Landing, RegulatedAboveCertified}

-- the mass is over its limit; at the limit it is not
abbrev pub is_over : ℕ → ℕ → Bool
is_over mass limit = nat_lt limit mass

-- the flight breaks the rule
abbrev pub is_broken : MassInput → Certified → MassRule → Bool
is_broken m c Ramp = is_over (ramp_mass m) c.ramp.0
is_broken m c ZeroFuel = is_over (zero_fuel_mass m) c.zero_fuel.0
is_broken m c TakeOff = is_over (take_off_mass m) m.regulated_take_off.0
is_broken m c Landing = is_over (landing_mass m) m.regulated_landing.0
is_broken m c RegulatedAboveCertified =
    is_over m.regulated_take_off.0 c.take_off.0 || is_over m.regulated_landing.0 c.landing.0

-- every rule, in the order in which broken ones are listed
abbrev pub rules : List MassRule
rules = Ramp ∷ ZeroFuel ∷ TakeOff ∷ Landing ∷ RegulatedAboveCertified ∷ []
