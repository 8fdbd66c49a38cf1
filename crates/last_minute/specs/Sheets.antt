-- what the sheet of a flight says
use Rattle.std.specs.Prelude.{◌≡◌, ℕ, ◌==◌, ◌+◌, ◌≤◌, ◌*◌, ℤ, pos, ◌*ℤ◌, List, [], ◌∷◌, length, map, find, option_map, All}
use Rattle.std.specs.List.{enumerate_from, zip}
use Rattle.mass_units.specs.declared.Kg.{Kg}
use Rattle.mass_units.specs.declared.Ticks.{Ticks}
use Rattle.mass_units.specs.declared.chord.Chord.{Chord}
use Rattle.mass_units.specs.PercentMac.{moment_behind_lemac}
use Rattle.mass_units.specs.Rounding.{IsRounded}
use Rattle.hold_parts.specs.declared.parts.Position.{Position}
use Rattle.hold_parts.specs.declared.parts.Item.{Item}
use Rattle.hold_parts.specs.declared.parts.Loose.{Loose}
use Rattle.hold_limits.specs.BranchOrder.{order_of, ordered}
use Rattle.hold_limits.specs.Problem.{Problem}
use Rattle.hold_limits.specs.Placement.{Placed, placed, placed_load, loose_load}
use Rattle.payload.specs.Load.{adults_in, children_in, infants_in, cabin_mass}
use Rattle.aircraft_file.specs.Craft.{Craft}
use Rattle.trim.specs.Loads.{container_mass, loose_mass, loose_loads, offer}
use Rattle.trim.specs.declared.balance.Balance.{Balance}
use Rattle.trim.specs.Balance.{IsBalance}
use Rattle.flight_state.specs.Effective.{effective}
use Rattle.flight_state.specs.declared.state.FlightState.{FlightState}
use Rattle.last_minute.specs.Planned.{path_of}
use Rattle.last_minute.specs.declared.places.Stowage.{Stowage}
use Rattle.last_minute.specs.declared.sheet.Place.{Place}
use Rattle.last_minute.specs.declared.sheet.Sheet.{Sheet}

-- a position of the hold with what stands on it: the container, where one stands there, and the mass of all that does
abbrev pub place_on : List Placed → List Loose → ℕ × Position → Place
place_on containers loose (number, position) = record {
  name = position.name;
  compartment = position.compartment;
  bulk = position.bulk;
  id = option_map (λ (p : Placed). p.0.id) (find (λ (p : Placed). p.1 == number) containers);
  mass = record { 0 = placed_load (λ other. other == number) containers + loose_load (λ other. other == number) loose };
}

-- all positions, in their order
abbrev pub places_of : Problem → List ℕ → List Place
places_of t path = map (place_on (placed t path) t.loose) (enumerate_from 0 t.hold.positions)

-- a centre of gravity in hundredths of a percent of the mean aerodynamic chord, a half away from zero
abbrev pub IsCentre : Chord → Ticks → Kg → ℤ → Type 0
IsCentre chord index mass centre =
    IsRounded (pos 100 *ℤ moment_behind_lemac index mass chord) (mass.0 * chord.mac_mm) centre

-- those of zero fuel, of take-off and of landing
abbrev pub AreCentres : Chord → Balance → List ℤ → Type 0
AreCentres chord b centres =
    (zero_fuel : ℤ) × (take_off : ℤ) × (landing : ℤ) × (centres ≡ zero_fuel ∷ take_off ∷ landing ∷ [])
    × IsCentre chord b.zero_fuel b.masses.zero_fuel zero_fuel
    × IsCentre chord b.take_off b.masses.take_off take_off
    × IsCentre chord b.landing b.masses.landing landing

-- the sheet of a flight: all figures are those with the late changes
pub record IsSheet (a : Craft) (s : FlightState) (sheet : Sheet) : Type 0 where
  pub leg : sheet.leg ≡ s.leg
  pub version : sheet.version ≡ a.version
  pub edition : sheet.edition ≡ s.edition
  pub dry : sheet.dry ≡ (effective s).dry
  pub fuel : sheet.fuel ≡ (effective s).fuel
  pub regulated : sheet.regulated ≡ (effective s).regulated
  pub max_zero_fuel : sheet.max_zero_fuel ≡ a.certified.zero_fuel
  pub adults : sheet.adults ≡ adults_in (effective s).cabin
  pub children : sheet.children ≡ children_in (effective s).cabin
  pub infants : sheet.infants ≡ infants_in (effective s).cabin
  pub cabin_mass : sheet.cabin_mass.0 ≡ cabin_mass a.averages (effective s).cabin
  pub container_mass : sheet.container_mass.0 ≡ container_mass (effective s).containers
  pub loose_mass : sheet.loose_mass.0 ≡ loose_mass (loose_loads a (effective s))
  pub balance : IsBalance a (effective s) (path_of s) sheet.balance
  pub mac : AreCentres a.chord sheet.balance sheet.mac
  pub places : sheet.places ≡ places_of (offer a (effective s)) (path_of s)
  pub lmcs : sheet.lmcs ≡ s.lmcs

-- what the sheet's maker holds of a flight: its containers in the order of the offer, their branch order, a position for each
-- in that order, and its loose loads
pub record IsStowage (s : Stowage) : Type 0 where
  pub order : s.order.now ≡ order_of s.items.now
  pub complete : length s.path.now ≡ length s.items.now
  pub few : length s.path.now ≤ 60
  pub few_loads : length s.loose.now ≤ 64
  pub containers_light : All (λ (item : Item). item.mass.0 ≤ 1000000) s.items.now
  pub loads_light : All (λ (load : Loose). load.mass.0 ≤ 1300000) s.loose.now

-- the containers with their positions
abbrev pub stowed : Stowage → List Placed
stowed s = zip (ordered s.items.now) s.path.now
