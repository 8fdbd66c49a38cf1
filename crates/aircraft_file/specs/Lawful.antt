-- which aircraft are lawful, and why a file that describes another is refused
use Rattle.std.specs.Prelude.{◌≡◌, ℕ, ◌≤◌, ◌<◌, ◌⊎◌, List, length, true, pos, ◌≤ℤ◌, unsigned_abs, All, Some, Result, Ok, Err, IsSomeAnd}
use Rattle.mass_units.specs.declared.Kg.{Kg}
use Rattle.mass_units.specs.declared.chord.Chord.{Chord}
use Rattle.mass_units.specs.Spelling.{IsIndex}
use Rattle.mass_limits.specs.declared.figures.Certified.{Certified}
use Rattle.payload.specs.declared.figures.Averages.{Averages}
use Rattle.payload.specs.declared.figures.Zone.{Zone}
use Rattle.hold_parts.specs.declared.lists.Fit.{Fit}
use Rattle.hold_parts.specs.declared.parts.Position.{Position}
use Rattle.hold_parts.specs.declared.parts.Combined.{Combined}
use Rattle.hold_parts.specs.declared.parts.Cumulative.{Cumulative}
use Rattle.hold_parts.specs.Spellings.{IsKind}
use Rattle.hold_limits.specs.Faults.{hold_fault, IsLawfulHold, IsWellSpelled}
use Rattle.envelope.specs.declared.corner.Corner.{Corner}
use Rattle.fuel_table.specs.declared.row.FuelRow.{FuelRow}
use Rattle.envelope.specs.Outline.{Outline, IsEnvelope, last_mass}
use Rattle.envelope.specs.Refusal as envelope
use Rattle.envelope.specs.declared.EnvFault.{EnvFault}
use Rattle.fuel_table.specs.Rows.{IsTable}
use Rattle.fuel_table.specs.Refusal as fuel
use Rattle.aircraft_file.specs.declared.fault.FileFault.{FileFault}
use Rattle.aircraft_file.specs.declared.fault.FileFault.TheVariants.{Toml, Missing, Wrong, Hold, Envelope, Fuel, Span, NoMemory}
use Rattle.aircraft_file.specs.declared.figures.Figures.{Figures}
use Rattle.aircraft_file.specs.declared.figures.Dry.{Dry}
use Rattle.aircraft_file.specs.declared.figures.Tolerance.{Tolerance}
use Rattle.mass_units.specs.declared.Band.{Band}
use Rattle.aircraft_file.specs.declared.parts.Envelopes.{Envelopes}
use Rattle.aircraft_file.specs.Spellings.{is_registration, is_version}
use Rattle.aircraft_file.specs.Craft.{Craft, craft_of}

-- The limits of the figures ---------------------------------------------------------------------

-- a mass from the least to the greatest
abbrev pub IsMass : ℕ → ℕ → Kg → Type 0
IsMass least most mass = (least ≤ mass.0) × (mass.0 ≤ most)

pub record IsDry (dry : Dry) : Type 0 where
  pub mass : IsMass 1 1000000 dry.mass
  pub at : IsIndex dry.index.0

pub record IsChord (chord : Chord) : Type 0 where
  pub k : IsIndex chord.k.0
  pub c : (1 ≤ chord.c) × (chord.c ≤ 1000000)
  pub reference : unsigned_abs chord.reference_mm ≤ 100000
  pub lemac : unsigned_abs chord.lemac_mm ≤ 100000
  pub mac : (1 ≤ chord.mac_mm) × (chord.mac_mm ≤ 100000)

pub record IsCertified (limits : Certified) : Type 0 where
  pub ramp : IsMass 1 1000000 limits.ramp
  pub zero_fuel : IsMass 1 1000000 limits.zero_fuel
  pub take_off : IsMass 1 1000000 limits.take_off
  pub landing : IsMass 1 1000000 limits.landing

pub record IsTolerance (tolerance : Tolerance) : Type 0 where
  pub mass : IsMass 0 1000000 tolerance.mass
  pub at : IsIndex tolerance.index.0
  pub positive : pos 0 ≤ℤ tolerance.index.0

pub record IsBand (band : Band) : Type 0 where
  pub low : IsIndex band.low.0
  pub high : IsIndex band.high.0
  pub rising : band.low.0 ≤ℤ band.high.0

pub record AreAverages (averages : Averages) : Type 0 where
  pub adult : averages.adult.0 ≤ 300
  pub child : averages.child.0 ≤ 300
  pub infant : averages.infant.0 ≤ 300
  pub bag : averages.bag.0 ≤ 300

abbrev pub IsZone : Zone → Type 0
IsZone zone = (zone.capacity ≤ 999) × (unsigned_abs zone.influence ≤ 100000)

pub record AreZones (zones : List Zone) : Type 0 where
  pub some : 1 ≤ length zones
  pub few : length zones ≤ 16
  pub each : All IsZone zones

-- a mass and an index of a corner, or of a row
abbrev pub IsCorner : Corner → Type 0
IsCorner corner = IsMass 0 1000000 corner.mass × IsIndex corner.index.0

abbrev pub IsFuelRow : FuelRow → Type 0
IsFuelRow row = IsMass 0 1000000 row.fuel × IsIndex row.index.0

abbrev pub AreCorners : Outline → Type 0
AreCorners outline = All IsCorner outline.forward × All IsCorner outline.aft

-- the mass of each limit is within the range of a mass in an array
abbrev pub AreCombined : List Combined → Type 0
AreCombined limits = All (λ (limit : Combined). IsMass 0 1000000 limit.most) limits

abbrev pub AreCumulative : List Cumulative → Type 0
AreCumulative limits = All (λ (limit : Cumulative). IsMass 0 1000000 limit.most) limits

-- the compartment of a position has one digit, and its kinds are three capitals each
abbrev pub IsSpelledPosition : Position → Type 0
IsSpelledPosition position = (position.compartment ≤ 9) × All (λ (fit : Fit). IsKind fit.kind) position.fits

-- the figures of an aircraft are within their limits
pub record AreFigures (figures : Figures) : Type 0 where
  pub registration : is_registration figures.registration ≡ true
  pub version : is_version figures.version ≡ true
  pub dry : IsDry figures.dry
  pub chord : IsChord figures.chord
  pub certified : IsCertified figures.certified
  pub tolerance : IsTolerance figures.tolerance
  pub ideal : IsBand figures.ideal
  pub averages : AreAverages figures.averages

abbrev pub figures_in : Craft → Figures
figures_in craft = record {
  registration = craft.registration;
  version = craft.version;
  dry = craft.dry;
  chord = craft.chord;
  certified = craft.certified;
  tolerance = craft.tolerance;
  ideal = craft.ideal;
  averages = craft.averages;
}

-- all numbers of an aircraft are within the limits of their keys
pub record IsWithinLimits (craft : Craft) : Type 0 where
  pub figures : AreFigures (figures_in craft)
  pub zones : AreZones craft.zones
  pub hold : IsWellSpelled craft.hold
  pub fuel : All IsFuelRow craft.fuel
  pub zero_fuel : AreCorners craft.zero_fuel
  pub take_off : AreCorners craft.take_off
  pub landing : AreCorners craft.landing

-- A lawful aircraft -----------------------------------------------------------------------------

-- the envelope goes up to the certified mass of its kind
abbrev pub Reaches : Kg → Outline → Type 0
Reaches limit outline = IsSomeAnd (last_mass outline.forward) (λ last. limit.0 ≤ last)

-- the envelope's last mass is below it
abbrev pub FallsShort : Kg → Outline → Type 0
FallsShort limit outline = IsSomeAnd (last_mass outline.forward) (λ last. last < limit.0)

abbrev pub envelopes_in : Craft → Envelopes
envelopes_in craft = record { zero_fuel = craft.zero_fuel; take_off = craft.take_off; landing = craft.landing }

-- all three are envelopes
pub record AreEnvelopes (envelopes : Envelopes) : Type 0 where
  pub zero_fuel : IsEnvelope envelopes.zero_fuel
  pub take_off : IsEnvelope envelopes.take_off
  pub landing : IsEnvelope envelopes.landing

-- each goes up to the certified mass of its kind
pub record HaveSpans (limits : Certified) (envelopes : Envelopes) : Type 0 where
  pub zero_fuel : Reaches limits.zero_fuel envelopes.zero_fuel
  pub take_off : Reaches limits.take_off envelopes.take_off
  pub landing : Reaches limits.landing envelopes.landing

pub record IsLawfulCraft (craft : Craft) : Type 0 where
  pub limits : IsWithinLimits craft
  pub hold : IsLawfulHold craft.hold
  pub envelopes : AreEnvelopes (envelopes_in craft)
  pub fuel : IsTable craft.fuel
  pub spans : HaveSpans craft.certified (envelopes_in craft)

-- Why a file is refused -------------------------------------------------------------------------

-- this is the number of the first outline that is not an envelope, and this is its fault
abbrev pub IsEnvelopeRefused : ℕ → EnvFault → Envelopes → Type 0
IsEnvelopeRefused which fault e =
    ((which ≡ 1) × envelope.IsRefusedFor fault e.zero_fuel)
    ⊎ (((which ≡ 2) × IsEnvelope e.zero_fuel × envelope.IsRefusedFor fault e.take_off)
    ⊎ ((which ≡ 3) × IsEnvelope e.zero_fuel × IsEnvelope e.take_off × envelope.IsRefusedFor fault e.landing))

-- this is the first envelope that falls short
abbrev pub IsFirstShort : ℕ → Certified → Envelopes → Type 0
IsFirstShort which most e =
    ((which ≡ 1) × FallsShort most.zero_fuel e.zero_fuel)
    ⊎ (((which ≡ 2) × Reaches most.zero_fuel e.zero_fuel × FallsShort most.take_off e.take_off)
    ⊎ ((which ≡ 3) × Reaches most.zero_fuel e.zero_fuel × Reaches most.take_off e.take_off × FallsShort most.landing e.landing))

-- the aircraft that the keys describe is not lawful, for this first reason: its hold, an envelope, its fuel table, or a span
abbrev pub IsRefused : FileFault → Craft → Type 0
IsRefused Toml craft = ⊥
IsRefused (Missing number) craft = ⊥
IsRefused (Wrong number) craft = ⊥
IsRefused (Hold fault) craft = hold_fault craft.hold ≡ Some fault
IsRefused (Envelope which fault) craft = IsLawfulHold craft.hold × IsEnvelopeRefused which fault (envelopes_in craft)
IsRefused (Fuel fault) craft = IsLawfulHold craft.hold × AreEnvelopes (envelopes_in craft) × fuel.IsRefusedFor fault craft.fuel
IsRefused (Span which) craft =
    IsLawfulHold craft.hold × AreEnvelopes (envelopes_in craft) × IsTable craft.fuel × IsFirstShort which craft.certified (envelopes_in craft)
IsRefused NoMemory craft = ⊥

-- the fault that decides, by what the keys say: for which the aircraft is refused, or else the first of the keys
abbrev pub IsFaultOf : Result Craft FileFault → FileFault → Type 0
IsFaultOf (Ok craft) fault = IsRefused fault craft
IsFaultOf (Err first) fault = fault ≡ first

-- the answer to a text, out of memory aside: the aircraft that it describes, where it is lawful, or the fault that decides
abbrev pub IsAnswerTo : List ℕ → Result Craft FileFault → Type 0
IsAnswerTo text (Ok craft) = (craft_of text ≡ Ok craft) × IsLawfulCraft craft
IsAnswerTo text (Err fault) = IsFaultOf (craft_of text) fault
