-- the rules of a flight
use Rattle.std.specs.Prelude.{◌≡◌, ◌↔◌, ℕ, ◌≤◌, Bool, not, IsTrue, List, [], ◌∷◌, filter, codes}
use Rattle.mass_limits.specs.Masses.{ramp_mass, zero_fuel_mass, take_off_mass, landing_mass}
use Rattle.hold_limits.specs.Placement.{IsSound, KeepsLateralLimit}
use Rattle.aircraft_file.specs.Craft.{Craft}
use Rattle.trim.specs.declared.figures.Figures.{Figures}
use Rattle.trim.specs.declared.rules.Rule.{Rule}
use Rattle.trim.specs.declared.rules.Rule.TheVariants.{Ramp, ZeroFuel, TakeOff, Landing, Regulated, ZeroFuelEnvelope, TakeOffEnvelope, LandingEnvelope, Hold, Lateral}
use Rattle.trim.specs.Loads.{offer}
use Rattle.trim.specs.Balance.{mass_input}
use Rattle.trim.specs.Points.{IsZeroFuelInside, IsTakeOffInside, IsLandingInside}

-- every rule, in the order in which broken ones are listed
abbrev pub all_rules : List Rule
all_rules =
    Ramp ∷ ZeroFuel ∷ TakeOff ∷ Landing ∷ Regulated ∷ ZeroFuelEnvelope ∷ TakeOffEnvelope ∷ LandingEnvelope ∷ Hold ∷ Lateral ∷ []

-- the flight keeps the rule, where its containers stand on these positions
abbrev pub Keeps : Craft → Figures → List ℕ → Rule → Type 0
Keeps a f path Ramp = ramp_mass (mass_input a f) ≤ a.certified.ramp.0
Keeps a f path ZeroFuel = zero_fuel_mass (mass_input a f) ≤ a.certified.zero_fuel.0
Keeps a f path TakeOff = take_off_mass (mass_input a f) ≤ f.regulated.take_off.0
Keeps a f path Landing = landing_mass (mass_input a f) ≤ f.regulated.landing.0
Keeps a f path Regulated = (f.regulated.take_off.0 ≤ a.certified.take_off.0) × (f.regulated.landing.0 ≤ a.certified.landing.0)
Keeps a f path ZeroFuelEnvelope = IsZeroFuelInside a f path
Keeps a f path TakeOffEnvelope = IsTakeOffInside a f path
Keeps a f path LandingEnvelope = IsLandingInside a f path
Keeps a f path Hold = IsSound (offer a f) path
Keeps a f path Lateral = KeepsLateralLimit (offer a f) path

-- of all rules, in their order, those that the flight breaks: those which a test of keeping them does not pass
pub record AreBroken (a : Craft) (f : Figures) (path : List ℕ) (found : List Rule) : Type 0 where
  pub keeps : Rule → Bool
  pub tells : (rule : Rule) → IsTrue (keeps rule) ↔ Keeps a f path rule
  pub found_is : found ≡ filter (λ rule. not (keeps rule)) all_rules

-- how a rule is printed
abbrev pub rule_text : Rule → List ℕ
rule_text Ramp = codes "RAMP"
rule_text ZeroFuel = codes "ZERO FUEL"
rule_text TakeOff = codes "TAKE OFF"
rule_text Landing = codes "LANDING"
rule_text Regulated = codes "REGULATED"
rule_text ZeroFuelEnvelope = codes "ZERO FUEL ENVELOPE"
rule_text TakeOffEnvelope = codes "TAKE OFF ENVELOPE"
rule_text LandingEnvelope = codes "LANDING ENVELOPE"
rule_text Hold = codes "HOLD"
rule_text Lateral = codes "LATERAL"
