-- which late changes a released flight may still have
use Rattle.std.specs.Prelude.{◌≡◌, ◌≢◌, ◌+◌, ◌≤◌, ◌<◌, ℤ, pos, ◌-ℤ◌, ◌<ℤ◌, ◌≤ℤ◌, unsigned_abs, nat_le, Bool, true, false, ◌&&◌, [], ◌∷◌, ◌++◌, length, is_some}
use Rattle.mass_limits.specs.Masses.{zero_fuel_mass}
use Rattle.payload.specs.Load.{most_loose}
use Rattle.payload.specs.PayFault.{IsFirstFault}
use Rattle.aircraft_file.specs.Craft.{Craft}
use Rattle.trim.specs.declared.figures.Figures.{Figures}
use Rattle.trim.specs.declared.rules.Rule.{Rule}
use Rattle.trim.specs.Balance.{mass_input, zero_fuel_index}
use Rattle.trim.specs.Loads.{bulk_number, figure_mass}
use Rattle.trim.specs.Refusals.{HasCabin}
use Rattle.trim.specs.Rules.{Keeps, AreBroken}
use Rattle.flight_state.specs.Effective.{effective, with_change, can_add, load_at, changed_load}
use Rattle.flight_state.specs.declared.change.Lmc.{Lmc}
use Rattle.flight_state.specs.declared.change.Lmc.TheVariants.{Cabin, Loose}
use Rattle.flight_state.specs.declared.state.FlightState.{FlightState}
use Rattle.last_minute.specs.Planned.{path_of}
use Rattle.last_minute.specs.declared.fault.LmcFault.{LmcFault}
use Rattle.last_minute.specs.declared.fault.LmcFault.TheVariants.{TooMany, NotThere, Pay, MassOver, IndexOver, Breaks, NoMemory}

-- the figures that would count with the late change
abbrev pub next_figures : FlightState → Lmc → Figures
next_figures s l = with_change (effective s) l

-- the state with the late change: its edition is one higher
abbrev pub next_state : FlightState → Lmc → FlightState
next_state s l = record s { edition = s.edition + 1; lmcs = s.lmcs ++ l ∷ [] }

-- the aircraft has the zone, or the bulk position; the change leaves all numbers within their limits, and no more than
-- 20,000 kg on the bulk position
abbrev pub is_there : Craft → Figures → Lmc → Bool
is_there a f (Cabin zone adults children infants) =
    nat_le zone (length a.zones) && can_add f (Cabin zone adults children infants)
is_there a f (Loose position mass pieces) =
    is_some (bulk_number a.hold position)
    && (can_add f (Loose position mass pieces) && nat_le (figure_mass a (changed_load (load_at position f.loose) mass pieces)) most_loose)

-- by how much all late changes, this one among them, change the zero-fuel mass, and the zero-fuel index
abbrev pub mass_change : Craft → FlightState → Lmc → ℤ
mass_change a s l =
    pos (zero_fuel_mass (mass_input a (next_figures s l))) -ℤ pos (zero_fuel_mass (mass_input a s.base))

abbrev pub index_change : Craft → FlightState → Lmc → ℤ
index_change a s l = zero_fuel_index a (next_figures s l) (path_of s) -ℤ zero_fuel_index a s.base (path_of s)

-- The tests of a late change, in their order ------------------------------------------------------

-- fewer than ten late changes are there already
abbrev pub HasRoom : FlightState → Type 0
HasRoom s = length s.lmcs < 10

-- and the change can be made
abbrev pub IsThere : Craft → FlightState → Lmc → Type 0
IsThere a s l = HasRoom s × (is_there a (effective s) l ≡ true)

-- and the cabin has no fault with it
abbrev pub IsSeated : Craft → FlightState → Lmc → Type 0
IsSeated a s l = IsThere a s l × HasCabin a (next_figures s l)

-- and the zero-fuel mass is changed by no more than the tolerance, up or down
abbrev pub IsMassTolerated : Craft → FlightState → Lmc → Type 0
IsMassTolerated a s l = IsSeated a s l × (unsigned_abs (mass_change a s l) ≤ a.tolerance.mass.0)

-- and so is the zero-fuel index
abbrev pub IsTolerated : Craft → FlightState → Lmc → Type 0
IsTolerated a s l = IsMassTolerated a s l × (pos (unsigned_abs (index_change a s l)) ≤ℤ a.tolerance.index.0)

-- and the flight keeps every rule with it
pub record IsAllowed (a : Craft) (s : FlightState) (l : Lmc) : Type 0 where
  pub tolerated : IsTolerated a s l
  pub kept : (rule : Rule) → Keeps a (next_figures s l) (path_of s) rule

-- the first of the tests that fails, and what it found. Running out of memory has no cause
abbrev pub IsRefused : Craft → FlightState → Lmc → LmcFault → Type 0
IsRefused a s l TooMany = 10 ≤ length s.lmcs
IsRefused a s l NotThere = HasRoom s × (is_there a (effective s) l ≡ false)
IsRefused a s l (Pay fault) = IsThere a s l × IsFirstFault a.zones (next_figures s l).cabin fault
IsRefused a s l (MassOver mass) =
    IsSeated a s l × (mass.0 ≡ unsigned_abs (mass_change a s l)) × (a.tolerance.mass.0 < mass.0)
IsRefused a s l (IndexOver index) =
    IsMassTolerated a s l × (index.0 ≡ pos (unsigned_abs (index_change a s l))) × (a.tolerance.index.0 <ℤ index.0)
IsRefused a s l (Breaks rules) =
    IsTolerated a s l × AreBroken a (next_figures s l) (path_of s) rules.items × (rules.items ≢ [])
IsRefused a s l NoMemory = Unit {0}

-- the tolerance that is exceeded first, by these changes of the mass and of the index
abbrev pub IsOver : Craft → ℤ → ℤ → LmcFault → Type 0
IsOver a mass index (MassOver over) = (over.0 ≡ unsigned_abs mass) × (a.tolerance.mass.0 < over.0)
IsOver a mass index (IndexOver over) =
    (unsigned_abs mass ≤ a.tolerance.mass.0) × (over.0 ≡ pos (unsigned_abs index)) × (a.tolerance.index.0 <ℤ over.0)
IsOver a mass index TooMany = ⊥
IsOver a mass index NotThere = ⊥
IsOver a mass index (Pay fault) = ⊥
IsOver a mass index (Breaks rules) = ⊥
IsOver a mass index NoMemory = ⊥
