-- which rules a flight keeps, as its calls find out
use Rattle.std.specs.Prelude.{ℕ, ◌≤◌, ◌↔◌, ℤ, ◌+ℤ◌, Bool, IsTrue, List}
use Rattle.base_words.specs.Lists.{int_sum_by}
use Rattle.envelope.specs.Outline.{IsInside}
use Rattle.hold_parts.specs.declared.parts.Item.{Item}
use Rattle.hold_parts.specs.declared.parts.Loose.{Loose}
use Rattle.hold_limits.specs.Lateral.{IsWithinLateral}
use Rattle.hold_limits.specs.Placement.{loose_moment, loose_lateral}
use Rattle.hold_limits.specs.Stowage.{stowed, StandsSoundly}
use Rattle.mass_limits.specs.declared.figures.Certified.{Certified}
use Rattle.mass_limits.specs.declared.figures.MassInput.{MassInput}
use Rattle.mass_limits.specs.declared.figures.MassRule.{MassRule}
use Rattle.mass_limits.specs.Masses.{ramp_mass, zero_fuel_mass, take_off_mass, landing_mass}
use Rattle.mass_limits.specs.declared.figures.MassRule.TheVariants as mass
use Rattle.aircraft_file.specs.Craft.{Craft}
use Rattle.trim.specs.declared.weighing.Weighed.{Weighed}
use Rattle.trim.specs.declared.rules.Rule.{Rule}
use Rattle.trim.specs.declared.rules.Rule.TheVariants.{Ramp, ZeroFuel, TakeOff, Landing, Regulated, ZeroFuelEnvelope, TakeOffEnvelope, LandingEnvelope, Hold, Lateral}
use Rattle.trim.specs.declared.rules.Verdicts.{Verdicts}

-- whether the rule is kept
abbrev pub is_kept_by : Verdicts → Rule → Bool
is_kept_by v Ramp = v.ramp
is_kept_by v ZeroFuel = v.zero_fuel
is_kept_by v TakeOff = v.take_off
is_kept_by v Landing = v.landing
is_kept_by v Regulated = v.regulated
is_kept_by v ZeroFuelEnvelope = v.zero_fuel_envelope
is_kept_by v TakeOffEnvelope = v.take_off_envelope
is_kept_by v LandingEnvelope = v.landing_envelope
is_kept_by v Hold = v.hold
is_kept_by v Lateral = v.lateral

-- the masses keep a rule: each is at most its limit
abbrev pub KeepsMassRule : MassInput → Certified → MassRule → Type 0
KeepsMassRule m c mass.Ramp = ramp_mass m ≤ c.ramp.0
KeepsMassRule m c mass.ZeroFuel = zero_fuel_mass m ≤ c.zero_fuel.0
KeepsMassRule m c mass.TakeOff = take_off_mass m ≤ m.regulated_take_off.0
KeepsMassRule m c mass.Landing = landing_mass m ≤ m.regulated_landing.0
KeepsMassRule m c mass.RegulatedAboveCertified = (m.regulated_take_off.0 ≤ c.take_off.0) × (m.regulated_landing.0 ≤ c.landing.0)

-- all that is stowed where a weighed flight's containers stand on these positions
abbrev pub stowed_in : List Item → List ℕ → Weighed → List Loose
stowed_in items path w = stowed items path w.loose.items

-- the hold index of a weighed flight
abbrev pub hold_index_in : Craft → List Item → List ℕ → Weighed → ℤ
hold_index_in a items path w = int_sum_by (loose_moment a.hold) (stowed_in items path w)

-- the verdicts on a weighed flight
pub record AreVerdicts (a : Craft) (items : List Item) (path : List ℕ) (w : Weighed) (v : Verdicts) : Type 0 where
  pub ramp : IsTrue v.ramp ↔ KeepsMassRule w.input a.certified mass.Ramp
  pub zero_fuel : IsTrue v.zero_fuel ↔ KeepsMassRule w.input a.certified mass.ZeroFuel
  pub take_off : IsTrue v.take_off ↔ KeepsMassRule w.input a.certified mass.TakeOff
  pub landing : IsTrue v.landing ↔ KeepsMassRule w.input a.certified mass.Landing
  pub regulated : IsTrue v.regulated ↔ KeepsMassRule w.input a.certified mass.RegulatedAboveCertified
  pub zero_fuel_envelope : IsTrue v.zero_fuel_envelope ↔ IsInside a.zero_fuel (zero_fuel_mass w.input) (w.zero_fuel_base.0 +ℤ hold_index_in a items path w)
  pub take_off_envelope : IsTrue v.take_off_envelope ↔ IsInside a.take_off (take_off_mass w.input) (w.take_off_base.0 +ℤ hold_index_in a items path w)
  pub landing_envelope : IsTrue v.landing_envelope ↔ IsInside a.landing (landing_mass w.input) (w.landing_base.0 +ℤ hold_index_in a items path w)
  pub hold : IsTrue v.hold ↔ StandsSoundly a.hold items path (stowed_in items path w)
  pub lateral : IsTrue v.lateral ↔ IsWithinLateral a.hold (int_sum_by (loose_lateral a.hold) (stowed_in items path w))
