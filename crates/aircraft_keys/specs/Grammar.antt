-- the names that the grammar of an aircraft file has in each table
use Rattle.std.specs.Prelude.{ℕ, Bool, List, [], ◌∷◌, codes, find, Option}
use Rattle.std.specs.List.{list_any}
use Rattle.std.specs.Str.{bytes_eq}
use Rattle.aircraft_keys.specs.declared.grammar.Section.{Section}
use Rattle.aircraft_keys.specs.declared.grammar.Section.TheVariants.{Dry, Chord, Limits, Tolerance, Trim, Averages, Zone, Position, Hold, Fuel, Envelope}

-- the key of a section
abbrev pub section_name : Section → List ℕ
section_name Dry = codes "dry"
section_name Chord = codes "chord"
section_name Limits = codes "limits"
section_name Tolerance = codes "tolerance"
section_name Trim = codes "trim"
section_name Averages = codes "averages"
section_name Zone = codes "zone"
section_name Position = codes "position"
section_name Hold = codes "hold"
section_name Fuel = codes "fuel"
section_name Envelope = codes "envelope"

-- the keys in a section; of `zone` and `position`, which are lists of tables, those in each table
abbrev pub section_keys : Section → List (List ℕ)
section_keys Dry = codes "mass" ∷ codes "index" ∷ []
section_keys Chord = codes "k" ∷ codes "c" ∷ codes "reference" ∷ codes "lemac" ∷ codes "mac" ∷ []
section_keys Limits = codes "ramp" ∷ codes "zero_fuel" ∷ codes "take_off" ∷ codes "landing" ∷ []
section_keys Tolerance = codes "mass" ∷ codes "index" ∷ []
section_keys Trim = codes "low" ∷ codes "high" ∷ []
section_keys Averages = codes "adult" ∷ codes "child" ∷ codes "infant" ∷ codes "bag" ∷ []
section_keys Zone = codes "capacity" ∷ codes "influence" ∷ []
section_keys Position = codes "name" ∷ codes "compartment" ∷ codes "influence" ∷ codes "bulk" ∷ codes "fits" ∷ []
section_keys Hold = codes "exclude" ∷ codes "combined" ∷ codes "forward" ∷ codes "aft" ∷ codes "lateral" ∷ codes "left" ∷ codes "right" ∷ []
section_keys Fuel = codes "rows" ∷ []
section_keys Envelope = codes "zero_fuel" ∷ codes "take_off" ∷ codes "landing" ∷ []

-- the keys in a table of `envelope`
abbrev pub side_keys : List (List ℕ)
side_keys = codes "forward" ∷ codes "aft" ∷ []

-- the keys of the document under which there is no section
abbrev pub plain_keys : List (List ℕ)
plain_keys = codes "registration" ∷ codes "version" ∷ []

-- all sections
abbrev pub sections : List Section
sections = Dry ∷ Chord ∷ Limits ∷ Tolerance ∷ Trim ∷ Averages ∷ Zone ∷ Position ∷ Hold ∷ Fuel ∷ Envelope ∷ []

-- the key is one of the names
abbrev pub is_among : List ℕ → List (List ℕ) → Bool
is_among key names = list_any (bytes_eq key) names

-- the section with this key
abbrev pub section_at : List ℕ → Option Section
section_at key = find (λ s. bytes_eq key (section_name s)) sections
