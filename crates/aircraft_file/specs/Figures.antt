-- the keys 1 to 21 of an aircraft file, section by section
use Rattle.std.specs.Prelude.{ℕ, if◌then◌else◌, pos, int_le, List, codes, Result, Ok, Err}
use Rattle.mass_units.specs.declared.chord.Chord.{Chord}
use Rattle.mass_limits.specs.declared.figures.Certified.{Certified}
use Rattle.payload.specs.declared.figures.Averages.{Averages}
use Rattle.aircraft_file.specs.declared.fault.FileFault.{FileFault}
use Rattle.aircraft_file.specs.declared.fault.FileFault.TheVariants.{Wrong}
use Rattle.aircraft_file.specs.declared.figures.Figures.{Figures}
use Rattle.aircraft_file.specs.declared.figures.Dry.{Dry}
use Rattle.aircraft_file.specs.declared.figures.Tolerance.{Tolerance}
use Rattle.mass_units.specs.declared.Band.{Band}
use Rattle.aircraft_file.specs.Spellings.{is_registration, is_version}
use Rattle.aircraft_file.specs.Document.{Contents, section_at, key, ◌>>=◌}
use Rattle.aircraft_file.specs.Forms.{whole, signed, mass, text, index}

-- `dry`: the dry operating mass and its index
abbrev pub dry_of : Contents → Result Dry FileFault
dry_of dry = do
  mass ← key 3 (mass 1 1000000) (codes "mass") dry
  at ← key 4 index (codes "index") dry
  Ok (record { mass = mass; index = at })

-- `chord`: where the index and the mean aerodynamic chord lie
abbrev pub chord_of : Contents → Result Chord FileFault
chord_of chord = do
  k ← key 5 index (codes "k") chord
  c ← key 6 (whole 1 1000000) (codes "c") chord
  reference ← key 7 (signed 100000) (codes "reference") chord
  lemac ← key 8 (signed 100000) (codes "lemac") chord
  mac ← key 9 (whole 1 100000) (codes "mac") chord
  Ok (record { k = k; c = c; reference_mm = reference; lemac_mm = lemac; mac_mm = mac })

-- `limits`: the certified masses
abbrev pub certified_of : Contents → Result Certified FileFault
certified_of limits = do
  ramp ← key 10 (mass 1 1000000) (codes "ramp") limits
  zero_fuel ← key 11 (mass 1 1000000) (codes "zero_fuel") limits
  take_off ← key 12 (mass 1 1000000) (codes "take_off") limits
  landing ← key 13 (mass 1 1000000) (codes "landing") limits
  Ok (record { ramp = ramp; zero_fuel = zero_fuel; take_off = take_off; landing = landing })

-- `tolerance`: what late changes may change; its index is not below zero
abbrev pub tolerance_of : Contents → Result Tolerance FileFault
tolerance_of tolerance = do
  mass ← key 14 (mass 0 1000000) (codes "mass") tolerance
  at ← key 15 index (codes "index") tolerance
  if int_le (pos 0) at.0 then Ok (record { mass = mass; index = at }) else Err (Wrong 15)

-- `trim`: the ideal band; its low end is at most its high end
abbrev pub ideal_of : Contents → Result Band FileFault
ideal_of trim = do
  low ← key 16 index (codes "low") trim
  high ← key 17 index (codes "high") trim
  if int_le low.0 high.0 then Ok (record { low = low; high = high }) else Err (Wrong 17)

-- `averages`: the average masses
abbrev pub averages_of : Contents → Result Averages FileFault
averages_of averages = do
  adult ← key 18 (mass 0 300) (codes "adult") averages
  child ← key 19 (mass 0 300) (codes "child") averages
  infant ← key 20 (mass 0 300) (codes "infant") averages
  bag ← key 21 (mass 0 300) (codes "bag") averages
  Ok (record { adult = adult; child = child; infant = infant; bag = bag })

-- the figures of an aircraft: its identity, and what its sections say
abbrev pub figures_with : List ℕ → List ℕ → Dry → Chord → Certified → Tolerance → Band → Averages → Figures
figures_with registration version dry chord certified tolerance ideal averages = record {
  registration = registration;
  version = version;
  dry = dry;
  chord = chord;
  certified = certified;
  tolerance = tolerance;
  ideal = ideal;
  averages = averages;
}

-- the keys 1 to 21: the aircraft's identity, and its sections of plain figures
abbrev pub figures_of : Contents → Result Figures FileFault
figures_of document = do
  registration ← key 1 (text is_registration) (codes "registration") document
  version ← key 2 (text is_version) (codes "version") document
  dry ← dry_of (section_at (codes "dry") document)
  chord ← chord_of (section_at (codes "chord") document)
  certified ← certified_of (section_at (codes "limits") document)
  tolerance ← tolerance_of (section_at (codes "tolerance") document)
  ideal ← ideal_of (section_at (codes "trim") document)
  averages ← averages_of (section_at (codes "averages") document)
  Ok (figures_with registration version dry chord certified tolerance ideal averages)
