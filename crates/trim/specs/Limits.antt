-- the limits that the figures of a flight keep
use Rattle.std.specs.Prelude.{◌≤◌, unsigned_abs, length, All}
use Rattle.hold_parts.specs.declared.parts.Item.{Item}
use Rattle.payload.specs.declared.figures.ZoneCount.{ZoneCount}
use Rattle.trim.specs.declared.figures.Figures.{Figures}

-- at most 999 passengers of each kind
abbrev pub HasFewPassengers : ZoneCount → Type 0
HasFewPassengers count = (count.adults ≤ 999) × (count.children ≤ 999) × (count.infants ≤ 999)

-- No refusal tests these. Whatever else may be wrong with figures is refused.
pub record KeepsLimits (f : Figures) : Type 0 where
  -- the dry aircraft and its fuel have at most 1,000,000 kg, and the dry index is within 10,000 index units
  pub dry : f.dry.mass.0 ≤ 1000000
  pub at : unsigned_abs f.dry.index.0 ≤ 1000000000
  pub taxi : f.fuel.taxi.0 ≤ 1000000
  pub take_off : f.fuel.take_off.0 ≤ 1000000
  -- the trip burns only fuel that is on board
  pub trip : f.fuel.trip.0 ≤ f.fuel.take_off.0
  -- at most 999 passengers of a kind in a zone
  pub passengers : All HasFewPassengers f.cabin
  -- up to 64 containers, of at most 1,000,000 kg, and up to 64 loose loads
  pub containers : length f.containers ≤ 64
  pub masses : All (λ (item : Item). item.mass.0 ≤ 1000000) f.containers
  pub loose : length f.loose ≤ 64
