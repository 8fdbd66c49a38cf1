-- a flight with a mass has one sheet
use Rattle.std.proofs.Common.{◌≡◌, ℕ, ◌*◌, ◌≤◌, ℤ, List, [], ◌∷◌, sym, ◌∙◌, subst, arith}
use Rattle.std.proofs.lemmas.Nat.{mul-le}
use Rattle.mass_units.specs.declared.Kg.{Kg}
use Rattle.mass_units.specs.declared.Ticks.{Ticks}
use Rattle.mass_units.specs.declared.chord.Chord.{Chord}
use Rattle.mass_limits.specs.declared.figures.Masses.{Masses}
use Rattle.aircraft_file.specs.Craft.{Craft}
use Rattle.aircraft_file.specs.Lawful.{IsLawfulCraft}
use Rattle.trim.specs.declared.figures.Figures.{Figures}
use Rattle.trim.specs.declared.balance.Balance.{Balance}
use Rattle.trim.specs.Balance.{landing_fuel, IsBalance}
use Rattle.trim.proofs.LawLemmas.{index-once}
use Rattle.flight_state.specs.declared.state.FlightState.{FlightState}
use Rattle.flight_state.specs.Effective.{effective}
use Rattle.last_minute.specs.Planned.{path_of}
use Rattle.last_minute.specs.declared.sheet.Sheet.{Sheet}
use Rattle.last_minute.specs.Sheets.{IsCentre, AreCentres, IsSheet}
use Rattle.reply_laws.specs.Alike.{HasMass}
use Rattle.reply_laws.proofs.ChainLemmas.{same-some}
use Rattle.reply_laws.proofs.RoundLemmas.{rounded-once}

-- The balance -----------------------------------------------------------------------------------------

balance-once : (a : Craft) (f : Figures) (path : List ℕ) (b c : Balance) → IsBalance a f path b → IsBalance a f path c → b ≡ c
balance-once a f path b c one other =
    let masses = one.masses ∙ sym other.masses in
    let kg = one.underload ∙ sym other.underload in
    let limiting : b.underload.limiting ≡ c.underload.limiting = same-some _ _ _ one.limiting other.limiting in
    let zero_fuel = one.zero_fuel ∙ sym other.zero_fuel in
    let take_off = index-once f.fuel.take_off.0 a f path b.take_off.0 c.take_off.0 one.take_off other.take_off in
    let landing = index-once (landing_fuel f) a f path b.landing.0 c.landing.0 one.landing other.landing in
    λ i. record {
      masses = masses i;
      underload = record { kg = kg i; limiting = limiting i };
      zero_fuel = record { 0 = zero_fuel i };
      take_off = record { 0 = take_off i };
      landing = record { 0 = landing i };
    }

-- The centres of gravity ------------------------------------------------------------------------------

long : (m n : ℕ) → 1 ≤ m → 1 ≤ n → 1 ≤ m * n
long m n one other = mul-le 1 1 m n one other

centre-once : (chord : Chord) (at : Ticks) (mass : Kg) (x y : ℤ) → 1 ≤ mass.0 → 1 ≤ chord.mac_mm → IsCentre chord at mass x → IsCentre chord at mass y → x ≡ y
centre-once chord at mass x y some wide one other = rounded-once _ (mass.0 * chord.mac_mm) x y (long mass.0 chord.mac_mm some wide) one other

-- the three masses are positive
pub record ArePositive (m : Masses) : Type 0 where
  pub zero_fuel : 1 ≤ m.zero_fuel.0
  pub take_off : 1 ≤ m.take_off.0
  pub landing : 1 ≤ m.landing.0

centres-once : (chord : Chord) (b : Balance) (xs ys : List ℤ) → ArePositive b.masses → 1 ≤ chord.mac_mm → AreCentres chord b xs → AreCentres chord b ys → xs ≡ ys
centres-once chord b xs ys some wide one other =
    let zero_fuel = centre-once chord b.zero_fuel b.masses.zero_fuel one.0 other.0 some.zero_fuel wide one.4 other.4 in
    let take_off = centre-once chord b.take_off b.masses.take_off one.1 other.1 some.take_off wide one.5 other.5 in
    let landing = centre-once chord b.landing b.masses.landing one.2 other.2 some.landing wide one.6 other.6 in
    one.3 ∙ (λ i. zero_fuel i ∷ take_off i ∷ landing i ∷ []) ∙ sym other.3

positive : (a : Craft) (f : Figures) (path : List ℕ) (b : Balance) → HasMass f → IsBalance a f path b → ArePositive b.masses
positive a f path b mass is =
    let dry = mass.dry in
    let trip = mass.trip in
    subst ArePositive (sym is.masses) (record {
      zero_fuel = omega (arith, dry);
      take_off = omega (arith, dry);
      landing = omega (arith, dry, trip);
    })

-- The sheet -------------------------------------------------------------------------------------------

pub sheet-once : (a : Craft) (s : FlightState) (x y : Sheet) → IsLawfulCraft a → HasMass (effective s) → IsSheet a s x → IsSheet a s y → x ≡ y
sheet-once a s x y lawful mass one other =
    let leg = one.leg ∙ sym other.leg in
    let version = one.version ∙ sym other.version in
    let edition = one.edition ∙ sym other.edition in
    let dry = one.dry ∙ sym other.dry in
    let fuel = one.fuel ∙ sym other.fuel in
    let regulated = one.regulated ∙ sym other.regulated in
    let max_zero_fuel = one.max_zero_fuel ∙ sym other.max_zero_fuel in
    let adults = one.adults ∙ sym other.adults in
    let children = one.children ∙ sym other.children in
    let infants = one.infants ∙ sym other.infants in
    let cabin = one.cabin_mass ∙ sym other.cabin_mass in
    let containers = one.container_mass ∙ sym other.container_mass in
    let loose = one.loose_mass ∙ sym other.loose_mass in
    let balance : x.balance ≡ y.balance = balance-once a (effective s) (path_of s) x.balance y.balance one.balance other.balance in
    let mac : x.mac ≡ y.mac = centres-once a.chord x.balance x.mac y.mac (positive a (effective s) (path_of s) x.balance mass one.balance) lawful.limits.figures.chord.mac.0 one.mac
    (subst (λ (b : Balance). AreCentres a.chord b y.mac) (sym balance) other.mac) in
    let places = one.places ∙ sym other.places in
    let lmcs = one.lmcs ∙ sym other.lmcs in
    λ i. record {
      leg = leg i;
      version = version i;
      edition = edition i;
      dry = dry i;
      fuel = fuel i;
      regulated = regulated i;
      max_zero_fuel = max_zero_fuel i;
      adults = adults i;
      children = children i;
      infants = infants i;
      cabin_mass = record { 0 = cabin i };
      container_mass = record { 0 = containers i };
      loose_mass = record { 0 = loose i };
      balance = balance i;
      mac = mac i;
      places = places i;
      lmcs = lmcs i;
    }
