-- an aircraft as contracts see it, and the aircraft that a file describes
use Rattle.std.specs.Prelude.{◌≢◌, ℕ, List, AllPairs, codes, Some, None, Result, Ok, Err}
use Rattle.mass_units.specs.declared.chord.Chord.{Chord}
use Rattle.mass_limits.specs.declared.figures.Certified.{Certified}
use Rattle.payload.specs.declared.figures.Averages.{Averages}
use Rattle.payload.specs.declared.figures.Zone.{Zone}
use Rattle.hold_limits.specs.Layout.{Layout}
use Rattle.envelope.specs.Outline.{Outline}
use Rattle.fuel_table.specs.declared.row.FuelRow.{FuelRow}
use Rattle.aircraft_file.specs.declared.fault.FileFault.{FileFault}
use Rattle.aircraft_file.specs.declared.fault.FileFault.TheVariants.{Toml}
use Rattle.aircraft_file.specs.declared.figures.Figures.{Figures}
use Rattle.aircraft_file.specs.declared.figures.Dry.{Dry}
use Rattle.aircraft_file.specs.declared.figures.Tolerance.{Tolerance}
use Rattle.mass_units.specs.declared.Band.{Band}
use Rattle.aircraft_file.specs.declared.parts.Envelopes.{Envelopes}
use Rattle.aircraft_file.specs.Document.{Contents, section_at, document_of, ◌>>=◌}
use Rattle.aircraft_file.specs.Figures.{figures_of}
use Rattle.aircraft_file.specs.Loading.{zones_of, hold_of, fuel_of, outline_of, lateral_of, under}

-- all numbers of an aircraft
pub record Craft : Type 0 where
  pub registration : List ℕ
  pub version : List ℕ
  pub dry : Dry
  pub chord : Chord
  pub certified : Certified
  pub tolerance : Tolerance
  pub ideal : Band
  pub averages : Averages
  pub zones : List Zone
  pub hold : Layout
  pub fuel : List FuelRow
  pub zero_fuel : Outline
  pub take_off : Outline
  pub landing : Outline

-- no two aircraft of a fleet have one registration
abbrev pub AreApart : List Craft → Type 0
AreApart fleet = AllPairs (λ (a b : Craft). a.registration ≢ b.registration) fleet

abbrev pub craft_with : Figures → List Zone → Layout → List FuelRow → Envelopes → Craft
craft_with figures zones hold fuel envelopes = record {
  registration = figures.registration;
  version = figures.version;
  dry = figures.dry;
  chord = figures.chord;
  certified = figures.certified;
  tolerance = figures.tolerance;
  ideal = figures.ideal;
  averages = figures.averages;
  zones = zones;
  hold = hold;
  fuel = fuel;
  zero_fuel = envelopes.zero_fuel;
  take_off = envelopes.take_off;
  landing = envelopes.landing;
}

-- `envelope`: the zero-fuel, the take-off and the landing envelope
abbrev pub envelopes_of : Contents → Result Envelopes FileFault
envelopes_of envelope = do
  zero_fuel ← outline_of 29 (section_at (codes "zero_fuel") envelope)
  take_off ← outline_of 31 (section_at (codes "take_off") envelope)
  landing ← outline_of 33 (section_at (codes "landing") envelope)
  Ok (record { zero_fuel = zero_fuel; take_off = take_off; landing = landing })

-- the aircraft that the keys of a document describe, or the first key that fails
abbrev pub craft_in : Contents → Result Craft FileFault
craft_in document = do
  figures ← figures_of document
  zones ← zones_of document
  hold ← hold_of document
  fuel ← fuel_of (section_at (codes "fuel") document)
  envelopes ← envelopes_of (section_at (codes "envelope") document)
  lateral ← lateral_of hold.positions (section_at (codes "hold") document)
  Ok (craft_with figures zones (under lateral hold) fuel envelopes)

-- the same of a text, which has to be a document
abbrev pub craft_in_document : Contents → Result Craft FileFault
craft_in_document None = Err Toml
craft_in_document (Some members) = craft_in (Some members)

abbrev pub craft_of : List ℕ → Result Craft FileFault
craft_of text = craft_in_document (document_of text)
