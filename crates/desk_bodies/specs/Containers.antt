-- a list of containers as a table of text
use Rattle.std.specs.Prelude.{ℕ, ◌≤◌, List, [], ◌∷◌, length, map, codes, All, IsUtf8}
use Rattle.csv.specs.Reading.{AreRecords, default_config, strip_bom}
use Rattle.csv.specs.declared.parser.State.TheVariants as st
use Rattle.mass_units.specs.Spelling.{number_text}
use Rattle.hold_parts.specs.declared.parts.Item.{Item}
use Rattle.flight_row.specs.Spelled.{IsSpelledContainer}

-- the records of a text, each a list of fields
abbrev pub Records : List ℕ → List (List (List ℕ)) → Type 0
Records text records = AreRecords default_config st.StartRecord (strip_bom text) records

-- `id,mass`
abbrev pub titles : List (List ℕ)
titles = codes "id" ∷ codes "mass" ∷ []

-- `AKE10001XX,1000`
abbrev pub record_of : Item → List (List ℕ)
record_of item = item.id ∷ number_text item.mass.0 ∷ []

-- the text lists these containers, at most 64
pub record ListsContainers (text : List ℕ) (items : List Item) : Type 0 where
  pub utf8 : IsUtf8 text
  pub records : Records text (titles ∷ map record_of items)
  pub few : length items ≤ 64
  pub spelled : All IsSpelledContainer items
