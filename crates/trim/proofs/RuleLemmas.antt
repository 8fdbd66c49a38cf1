-- the verdicts on a flight, and what they say of its rules
use Rattle.std.proofs.Common.{◌≡◌, ◌↔◌, ⊎_elim, ℕ, zero, suc, ◌<◌, ◌≤◌, Bool, true, false, not, ◌||◌, nat_lt, IsTrue, List, [], ◌∷◌, length, get_or, filter, refl, ap, sym, ◌∙◌, subst, arith, Contains, rules as std_rules, ap₂, ℤ, ◌+ℤ◌}
use Rattle.std.proofs.lemmas.Bool.{cases_Bool}
use Rattle.std.proofs.lemmas.Bool.Decides.{nat_tests}
use Rattle.std.proofs.lemmas.List.Elements.{All-contains, filter_passes}
use Rattle.mass_limits.specs.declared.figures.Certified.{Certified}
use Rattle.mass_limits.specs.declared.figures.MassInput.{MassInput}
use Rattle.mass_limits.specs.declared.figures.MassRule.{MassRule}
use Rattle.mass_limits.specs.declared.figures.MassRule.TheVariants.{Ramp, ZeroFuel, TakeOff, Landing, RegulatedAboveCertified}
use Rattle.mass_limits.specs.MassRule.{is_broken, rules}
use Rattle.mass_limits.specs.Masses.{zero_fuel_mass, take_off_mass, landing_mass}
use Rattle.envelope.specs.Outline.{IsInside}
use Rattle.base_words.specs.Lists.{int_sum_by}
use Rattle.hold_parts.specs.declared.parts.Loose.{Loose}
use Rattle.hold_limits.specs.Lateral.{IsWithinLateral}
use Rattle.hold_limits.specs.Placement.{hold_index, lateral_difference, loose_moment, loose_lateral, IsSound}
use Rattle.hold_limits.specs.Stowage.{stowed, StandsSoundly}
use Rattle.hold_limits.proofs.StowageLemmas.{moment-stowed, sound-stands}
use Rattle.aircraft_file.specs.Craft.{Craft}
use Rattle.trim.specs.declared.figures.Figures.{Figures}
use Rattle.trim.specs.declared.rules.Rule.{Rule}
use Rattle.trim.specs.declared.rules.Rule.TheVariants as on
use Rattle.trim.specs.declared.rules.Verdicts.{Verdicts}
use Rattle.trim.specs.declared.weighing.Weighed.{Weighed}
use Rattle.trim.specs.Loads.{offer, loose_loads}
use Rattle.trim.specs.Balance.{mass_input, zero_fuel_base, landing_fuel}
use Rattle.trim.specs.Rules.{Keeps}
use Rattle.trim.specs.Verdicts.{is_kept_by, KeepsMassRule, stowed_in, hold_index_in, AreVerdicts}
use Rattle.trim.specs.Weighed.{IsWeighed}
use Rattle.trim.proofs.PointLemmas.{inside-with}

-- an element that passes is among those that pass
pub kept : {X : Type 0} (p : X → Bool) (xs : List X) (x : X) (k : ℕ) → p x ≡ true → k < length xs → get_or xs k x ≡ x → Contains (filter p xs) x
kept p [] x k passes within here = absurd (omega arith)
kept p (y ∷ ys) x zero passes within here =
    let first : p y ≡ true = ap p here ∙ passes in
    rw first (0, omega arith, here)
kept p (y ∷ ys) x (suc k) passes within here =
    let later = kept p ys x k passes (omega arith) here in
    ⊎_elim
    (λ (is : p y ≡ true). rw is (suc later.0, omega (arith, later.1), later.2))
    (λ (other : p y ≡ false). rw other later)
    (cases_Bool (p y))

each-listed : (rule : MassRule) → Contains rules rule
each-listed Ramp = (0, omega arith, refl)
each-listed ZeroFuel = (1, omega arith, refl)
each-listed TakeOff = (2, omega arith, refl)
each-listed Landing = (3, omega arith, refl)
each-listed RegulatedAboveCertified = (4, omega arith, refl)

true-is : (b : Bool) → IsTrue b → b ≡ true
true-is true h = refl
true-is false h = absurd (search std_rules)

pub is-true : (b : Bool) → b ≡ true → IsTrue b
is-true b e = rw e (search std_rules)

-- a mass rule is listed exactly where it is broken
mass-tells : (m : MassInput) (c : Certified) (found : List MassRule) (rule : MassRule) (b : Bool) → found ≡ filter (is_broken m c) rules → (IsTrue b ↔ Contains found rule)
    → IsTrue b ↔ IsTrue (is_broken m c rule)
mass-tells m c found rule b is tells =
    let P : MassRule → Type 0 = λ r. is_broken m c r ≡ true in
    let C : List MassRule → Type 0 = λ xs. Contains xs rule in
    let at = each-listed rule in (
      λ h. is-true (is_broken m c rule) (All-contains P (filter (is_broken m c) rules) rule (filter_passes (is_broken m c) rules) (subst C is (tells.0 h))),
      λ broken. tells.1 (subst C (sym is) (kept (is_broken m c) rules rule at.0 (true-is (is_broken m c rule) broken) at.1 at.2)),
    )

-- what a test that fails says
not-tells : {P : Type 0} (b : Bool) → (IsTrue b ↔ P) → IsTrue (not b) ↔ ¬ P
not-tells true tells = (λ h. absurd (search std_rules), λ none. absurd (none (tells.0 (is-true true refl))))
not-tells false tells = (λ _ p. absurd (search (std_rules, tells.1 p)), λ _. is-true true refl)

not-over : (limit mass : ℕ) → nat_lt limit mass ≡ false → mass ≤ limit
not-over limit mass is = grind (arith, nat_tests)

over : (limit mass : ℕ) → mass ≤ limit → nat_lt limit mass ≡ false
over limit mass within = grind (arith, nat_tests)

neither : (x y : Bool) → (x || y) ≡ false → (x ≡ false) × (y ≡ false)
neither true y is = absurd (search (std_rules, is))
neither false y is = (refl, is)

both-false : (x y : Bool) → x ≡ false → y ≡ false → (x || y) ≡ false
both-false x y one other = rw (one, other) refl

-- a mass rule that is not broken is kept
unbroken-keeps : (m : MassInput) (c : Certified) (rule : MassRule) → is_broken m c rule ≡ false → KeepsMassRule m c rule
unbroken-keeps m c Ramp is = not-over _ _ is
unbroken-keeps m c ZeroFuel is = not-over _ _ is
unbroken-keeps m c TakeOff is = not-over _ _ is
unbroken-keeps m c Landing is = not-over _ _ is
unbroken-keeps m c RegulatedAboveCertified is = let parts = neither _ _ is in (not-over _ _ parts.0, not-over _ _ parts.1)

keeps-unbroken : (m : MassInput) (c : Certified) (rule : MassRule) → KeepsMassRule m c rule → is_broken m c rule ≡ false
keeps-unbroken m c Ramp keeps = over _ _ keeps
keeps-unbroken m c ZeroFuel keeps = over _ _ keeps
keeps-unbroken m c TakeOff keeps = over _ _ keeps
keeps-unbroken m c Landing keeps = over _ _ keeps
keeps-unbroken m c RegulatedAboveCertified keeps = both-false _ _ (over _ _ keeps.0) (over _ _ keeps.1)

pub false-is : (b : Bool) → ¬ (IsTrue b) → b ≡ false
false-is true none = absurd (none (is-true true refl))
false-is false none = refl

not-true : (b : Bool) → b ≡ false → ¬ (IsTrue b)
not-true true is h = absurd (search (std_rules, is))
not-true false is h = search std_rules

-- a mass rule is kept exactly where it is not listed
pub mass-kept : (m : MassInput) (c : Certified) (found : List MassRule) (rule : MassRule) (b : Bool) → found ≡ filter (is_broken m c) rules → (IsTrue b ↔ Contains found rule)
    → IsTrue (not b) ↔ KeepsMassRule m c rule
mass-kept m c found rule b is tells =
    let listed = not-tells b (mass-tells m c found rule b is tells) in (
      λ h. unbroken-keeps m c rule (false-is (is_broken m c rule) (listed.0 h)),
      λ keeps. listed.1 (not-true (is_broken m c rule) (keeps-unbroken m c rule keeps)),
    )

-- The rules of a flight -----------------------------------------------------------------------------

through : {A P Q : Type 0} → (A ↔ P) → (P ↔ Q) → A ↔ Q
through tells same = (λ x. same.0 (tells.0 x), λ q. tells.1 (same.1 q))

-- the verdicts tell of each rule whether the flight keeps it
pub verdicts-tell : (a : Craft) (f : Figures) (path : List ℕ) (w : Weighed) (v : Verdicts) → length path ≡ length f.containers → IsWeighed a f w → AreVerdicts a f.containers path w v
    → (rule : Rule) → IsTrue (is_kept_by v rule) ↔ Keeps a f path rule
verdicts-tell a f path w v whole is are rule = tell rule
  where
    all : stowed_in f.containers path w ≡ stowed f.containers path (loose_loads a f)
    all = ap (stowed f.containers path) is.loose

    hold : hold_index_in a f.containers path w ≡ hold_index (offer a f) path
    hold = ap (int_sum_by (loose_moment a.hold)) all ∙ moment-stowed (loose_moment a.hold) (offer a f) path

    sound : StandsSoundly a.hold f.containers path (stowed_in f.containers path w) ↔ IsSound (offer a f) path
    sound = subst (λ (loads : List Loose). StandsSoundly a.hold f.containers path loads ↔ IsSound (offer a f) path) (sym all) (sound-stands (offer a f) path (omega (arith, whole)))

    by_mass : (r : MassRule) (b : Bool) → IsTrue b ↔ KeepsMassRule w.input a.certified r → IsTrue b ↔ KeepsMassRule (mass_input a f) a.certified r
    by_mass r b tells = subst (λ (m : MassInput). IsTrue b ↔ KeepsMassRule m a.certified r) is.input tells

    tell : (rule : Rule) → IsTrue (is_kept_by v rule) ↔ Keeps a f path rule
    tell on.Ramp = by_mass Ramp v.ramp are.ramp
    tell on.ZeroFuel = by_mass ZeroFuel v.zero_fuel are.zero_fuel
    tell on.TakeOff = by_mass TakeOff v.take_off are.take_off
    tell on.Landing = by_mass Landing v.landing are.landing
    tell on.Regulated = by_mass RegulatedAboveCertified v.regulated are.regulated
    tell on.ZeroFuelEnvelope =
        let P : MassInput → ℤ → Type 0 = λ m z. IsTrue v.zero_fuel_envelope ↔ IsInside a.zero_fuel (zero_fuel_mass m) z in
        let at : (w.zero_fuel_base.0 +ℤ hold_index_in a f.containers path w) ≡ (zero_fuel_base a f +ℤ hold_index (offer a f) path) = ap₂ (λ x y. x +ℤ y) is.zero_fuel hold in
        subst (P (mass_input a f)) at (subst (λ (m : MassInput). P m (w.zero_fuel_base.0 +ℤ hold_index_in a f.containers path w)) is.input are.zero_fuel_envelope)
    tell on.TakeOffEnvelope =
        let P : MassInput → ℤ → Type 0 = λ m z. IsTrue v.take_off_envelope ↔ IsInside a.take_off (take_off_mass m) z in
        let at : (w.take_off_base.0 +ℤ hold_index_in a f.containers path w) ≡ (w.take_off_base.0 +ℤ hold_index (offer a f) path) = ap (λ y. w.take_off_base.0 +ℤ y) hold in
        let tells = subst (P (mass_input a f)) at (subst (λ (m : MassInput). P m (w.take_off_base.0 +ℤ hold_index_in a f.containers path w)) is.input are.take_off_envelope) in
        let inside = inside-with a.take_off (take_off_mass (mass_input a f)) f.fuel.take_off.0 a f path w.take_off_base.0 is.take_off in
        through tells (inside.1, inside.0)
    tell on.LandingEnvelope =
        let P : MassInput → ℤ → Type 0 = λ m z. IsTrue v.landing_envelope ↔ IsInside a.landing (landing_mass m) z in
        let at : (w.landing_base.0 +ℤ hold_index_in a f.containers path w) ≡ (w.landing_base.0 +ℤ hold_index (offer a f) path) = ap (λ y. w.landing_base.0 +ℤ y) hold in
        let tells = subst (P (mass_input a f)) at (subst (λ (m : MassInput). P m (w.landing_base.0 +ℤ hold_index_in a f.containers path w)) is.input are.landing_envelope) in
        let inside = inside-with a.landing (landing_mass (mass_input a f)) (landing_fuel f) a f path w.landing_base.0 is.landing in
        through tells (inside.1, inside.0)
    tell on.Hold = through are.hold sound
    tell on.Lateral =
        let at : int_sum_by (loose_lateral a.hold) (stowed_in f.containers path w) ≡ lateral_difference (offer a f) path =
        ap (int_sum_by (loose_lateral a.hold)) all ∙ moment-stowed (loose_lateral a.hold) (offer a f) path in
        subst (λ (z : ℤ). IsTrue v.lateral ↔ IsWithinLateral a.hold z) at are.lateral
