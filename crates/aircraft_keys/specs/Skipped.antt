-- the keys of a document that the grammar of an aircraft file does not name
use Rattle.std.specs.Prelude.{ℕ, ◌+◌, ◌&&◌, ◌||◌, not, Bool, false, if◌then◌else◌, List, [], ◌∷◌, ◌++◌, codes, Some, None, is_some, option_and_then}
use Rattle.std.specs.Option.{option_map_or}
use Rattle.toml.specs.Data.{Data, array, table, Items, no_items, item, Members, no_members, member, get_member, as_table}
use Rattle.mass_units.specs.Spelling.{number_text}
use Rattle.aircraft_keys.specs.declared.grammar.Section.{Section}
use Rattle.aircraft_keys.specs.declared.grammar.Section.TheVariants.{Zone, Position, Envelope}
use Rattle.aircraft_keys.specs.Grammar.{section_keys, side_keys, plain_keys, is_among, section_at}

-- one list of names behind the other, for each key of a table
abbrev pub at_each_key : (List ℕ → Data → List (List ℕ)) → Members → List (List ℕ)
at_each_key names no_members = []
at_each_key names (member key value more) = names key value ++ at_each_key names more

-- the same of a value that may be a table
abbrev pub in_table : (Members → List (List ℕ)) → Data → List (List ℕ)
in_table names (table members) = names members
in_table names _ = []

-- the full name of a key that is none of these
abbrev pub other_key : List (List ℕ) → List ℕ → List ℕ → List (List ℕ)
other_key keys front key = if is_among key keys then [] else (front ++ key) ∷ []

-- those of a table
abbrev pub other_keys : List (List ℕ) → List ℕ → Members → List (List ℕ)
other_keys keys front members = at_each_key (λ key value. other_key keys front key) members

-- the front of the full names in a table with this name
abbrev pub front_of : List ℕ → List ℕ
front_of name = name ++ codes "."

-- what is skipped in the tables of a list, numbered from this number on
abbrev pub in_tables : List (List ℕ) → List ℕ → ℕ → Items → List (List ℕ)
in_tables keys name number no_items = []
in_tables keys name number (item value more) =
    in_table (other_keys keys (front_of (front_of name ++ number_text number))) value ++ in_tables keys name (number + 1) more

-- the same of a value that may be a list
abbrev pub in_list : List (List ℕ) → List ℕ → Data → List (List ℕ)
in_list keys name (array items) = in_tables keys name 1 items
in_list keys name _ = []

-- what is skipped at a key of `envelope`
abbrev pub at_envelope : List ℕ → List ℕ → Data → List (List ℕ)
at_envelope front key value =
    if is_among key (section_keys Envelope) then in_table (other_keys side_keys (front_of (front ++ key))) value
    else (front ++ key) ∷ []

-- what is skipped in a section with this name
abbrev pub in_section : Section → List ℕ → Data → List (List ℕ)
in_section Zone name value = in_list (section_keys Zone) name value
in_section Position name value = in_list (section_keys Position) name value
in_section Envelope name value = in_table (at_each_key (at_envelope (front_of name))) value
in_section section name value = in_table (other_keys (section_keys section) (front_of name)) value

-- what is skipped at a key of the document
abbrev pub at_key : List ℕ → Data → List (List ℕ)
at_key key value = elim (section_at key) [ None ↦ other_key plain_keys [] key | Some section ↦ in_section section key value ]

-- the full names of all keys that are skipped, in the order of the document as it is read: the keys of a table by their letters,
-- and a list in its own order
abbrev pub skipped : Members → List (List ℕ)
skipped members = at_each_key at_key members

-- `hold` has positions on the left or on the right, and no lateral limit
abbrev pub is_without_limit : Members → Bool
is_without_limit hold =
    (is_some (get_member (codes "left") hold) || is_some (get_member (codes "right") hold)) && not (is_some (get_member (codes "lateral") hold))

-- the same of a document; it is not so where `hold` is no table
abbrev pub sides_without_limit : Members → Bool
sides_without_limit members = option_map_or is_without_limit (option_and_then as_table (get_member (codes "hold") members)) false
