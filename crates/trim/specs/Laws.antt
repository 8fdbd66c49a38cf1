-- what follows from no broken rule
use Rattle.std.specs.Prelude.{List, [], ◌∷◌, All, Contains}
use Rattle.trim.specs.declared.rules.Rule.{Rule}
use Rattle.trim.specs.declared.rules.Rule.TheVariants.{ZeroFuelEnvelope, TakeOffEnvelope, LandingEnvelope, Hold, Lateral}

-- the rules on where the containers stand, and on the points that this gives
abbrev pub plan_rules : List Rule
plan_rules = ZeroFuelEnvelope ∷ TakeOffEnvelope ∷ LandingEnvelope ∷ Hold ∷ Lateral ∷ []

-- none of them is among the broken ones
abbrev pub KeepsPlanRules : List Rule → Type 0
KeepsPlanRules found = All (λ rule. ¬ (Contains found rule)) plan_rules
