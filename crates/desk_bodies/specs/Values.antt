-- what JSON says where it is in one of the forms of a body
use Rattle.std.specs.Prelude.{ℕ, nat_le, ◌&&◌, ◌==◌, Bool, if◌then◌else◌, List, [], ◌∷◌, ℤ, pos, int_le, unsigned_abs, Option, Some, None, option_map, option_and_then}
use Rattle.std.specs.Str.{is_utf8}
use Rattle.serde_json.specs.Data.{Data, Items, no_items, item, Members}
use Rattle.serde_json.specs.Events.{members_len}
use Rattle.serde_json.specs.Find.{as_array, as_i64, as_number, as_object, as_str, get_member}
use Rattle.serde_json.specs.Read.{read}
use Rattle.serde_json.specs.View.{members_view}
use Rattle.mass_units.specs.Spelling.{two_digits}
use Rattle.mass_units.specs.declared.Kg.{Kg}
use Rattle.mass_units.specs.declared.Ticks.{Ticks}
use Rattle.aircraft_file.specs.Spellings.{spelled, index_spelled}
use Rattle.desk_bodies.specs.declared.object.Object.{Object}

-- one step after the other: none where a step has none
infixl 10 ◌>>=◌
abbrev pub ◌>>=◌ : {A B : Type 0} → Option A → (A → Option B) → Option B
o >>= next = option_and_then next o

-- the JSON value that the bytes are
unfoldable pub json_of : List ℕ → Option Data
json_of text = if is_utf8 text then read text else None

-- Values ----------------------------------------------------------------------------------------

-- a whole number from the least to the greatest
abbrev pub whole : ℕ → ℕ → Data → Option ℕ
whole least most d = do
  n ← as_number d
  z ← as_i64 n
  if int_le (pos least) z && int_le z (pos most) then Some (unsigned_abs z) else None

-- a whole number of at most this size, to either side of zero
abbrev pub signed : ℕ → Data → Option ℤ
signed most d = do
  n ← as_number d
  z ← as_i64 n
  if nat_le (unsigned_abs z) most then Some z else None

-- whole kilograms, up to 1,000,000
abbrev pub mass : ℕ → Data → Option Kg
mass least d = option_map (λ n. record { 0 = n }) (whole least 1000000 d)

-- a day of a month, 1 to 31, as the two digits of its number
unfoldable pub day : Data → Option (List ℕ)
day d = option_map two_digits (whole 1 31 d)

-- a text that passes the test
abbrev pub text : (List ℕ → Bool) → Data → Option (List ℕ)
text test d = do
  s ← as_str d
  spelled test s

-- the text of an index
abbrev pub index : Data → Option Ticks
index d = do
  s ← as_str d
  option_map (λ z. record { 0 = z }) (index_spelled s)

-- Objects and arrays ----------------------------------------------------------------------------

-- the members of an object
abbrev pub members_in : Object → Members
members_in object = members_view object.members.now.entries

-- an object with this many members
abbrev pub object_of : ℕ → Data → Option Members
object_of count d = do
  members ← as_object d
  if members_len members == count then Some members else None

-- the value at a key, in a form
abbrev pub at : {A : Type 0} → List ℕ → (Data → Option A) → Members → Option A
at name form members = do
  d ← get_member name members
  form d

-- the items, each in a form
abbrev pub each : {A : Type 0} → (Data → Option A) → Items → Option (List A)
each form no_items = Some []
each form (item d ds) = do
  a ← form d
  option_map (λ more. a ∷ more) (each form ds)

-- exactly three items
abbrev pub three : Items → Option (Data × Data × Data)
three (item a (item b (item c no_items))) = Some (a, b, c)
three (item a (item b (item c (item d more)))) = None
three (item a (item b no_items)) = None
three (item a no_items) = None
three no_items = None

-- an array of exactly three values
abbrev pub triple : Data → Option (Data × Data × Data)
triple d = do
  items ← as_array d
  three items
