-- the forms of a value, and what a value in each form says
use Rattle.std.specs.Prelude.{ℕ, nat_le, min, ◌&&◌, Bool, true, false, if◌then◌else◌, List, [], ◌∷◌, ℤ, pos, int_le, unsigned_abs, codes, Option, Some, None, option_map, option_and_then}
use Rattle.toml.specs.Data.{Data, Items, no_items, item, Members, as_integer, as_str, as_bool, as_array, as_table, get_member}
use Rattle.mass_units.specs.declared.Kg.{Kg}
use Rattle.mass_units.specs.declared.Ticks.{Ticks}
use Rattle.envelope.specs.declared.corner.Corner.{Corner}
use Rattle.fuel_table.specs.declared.row.FuelRow.{FuelRow}
use Rattle.payload.specs.declared.figures.Zone.{Zone}
use Rattle.hold_parts.specs.declared.lists.Fit.{Fit}
use Rattle.hold_parts.specs.declared.parts.Position.{Position}
use Rattle.hold_parts.specs.declared.parts.Combined.{Combined}
use Rattle.hold_parts.specs.declared.parts.Cumulative.{Cumulative}
use Rattle.hold_parts.specs.Names.{number_named}
use Rattle.aircraft_file.specs.declared.position_form.Head.{Head}
use Rattle.aircraft_file.specs.declared.side_keys.NamedSide.{NamedSide}
use Rattle.aircraft_file.specs.Spellings.{spelled, is_name, is_kind, index_spelled}

-- one step after the other: none where a step has none
infixl 10 ◌>>=◌
abbrev pub ◌>>=◌ : {A B : Type 0} → Option A → (A → Option B) → Option B
o >>= next = option_and_then next o

-- a whole number from the least to the greatest
abbrev pub whole : ℕ → ℕ → Data → Option ℕ
whole least most d = do
  z ← as_integer d
  if int_le (pos least) z && int_le z (pos most) then Some (unsigned_abs z) else None

-- a whole number of at most this size, to either side of zero
abbrev pub signed : ℕ → Data → Option ℤ
signed most d = do
  z ← as_integer d
  if nat_le (unsigned_abs z) most then Some z else None

-- whole kilograms, likewise
abbrev pub mass : ℕ → ℕ → Data → Option Kg
mass least most d = option_map (λ n. record { 0 = n }) (whole least most d)

-- a text that passes the test
abbrev pub text : (List ℕ → Bool) → Data → Option (List ℕ)
text test d = do
  s ← as_str d
  spelled test s

-- the text of an index
abbrev pub index : Data → Option Ticks
index d = do
  s ← as_str d
  option_map (λ z. record { 0 = z }) (index_spelled s)

-- the items of an array, each read in the form
abbrev pub each : {A : Type 0} → (Data → Option A) → Items → Option (List A)
each form no_items = Some []
each form (item d ds) = do
  a ← form d
  option_map (λ more. a ∷ more) (each form ds)

-- an array of values of one form
abbrev pub array_of : {A : Type 0} → (Data → Option A) → Data → Option (List A)
array_of form d = do
  items ← as_array d
  each form items

-- two items and no more
abbrev pub two : Items → Option (Data × Data)
two (item a (item b no_items)) = Some (a, b)
two (item a (item b (item c more))) = None
two (item a no_items) = None
two no_items = None

-- an array of exactly two values
abbrev pub pair : Data → Option (Data × Data)
pair d = do
  items ← as_array d
  two items

-- a first item, and at least one more
abbrev pub more_than_one : Items → Option (Data × Items)
more_than_one (item a (item b more)) = Some (a, item b more)
more_than_one (item a no_items) = None
more_than_one no_items = None

-- an array of at least two values: the first, and the others
abbrev pub first_and_more : Data → Option (Data × Items)
first_and_more d = do
  items ← as_array d
  more_than_one items

-- a mass in an array, and `[mass, index]`, as a corner of an envelope and as a row of a fuel table
abbrev pub listed_mass : Data → Option Kg
listed_mass d = mass 0 1000000 d

abbrev pub corner : Data → Option Corner
corner d = do
  parts ← pair d
  mass ← listed_mass parts.0
  at ← index parts.1
  Some (record { mass = mass; index = at })

abbrev pub fuel_row : Data → Option FuelRow
fuel_row d = do
  parts ← pair d
  fuel ← listed_mass parts.0
  at ← index parts.1
  Some (record { fuel = fuel; index = at })

-- a zone of the cabin: a table with its seats and its influence
abbrev pub zone : Data → Option Zone
zone d = do
  table ← as_table d
  capacity ← get_member (codes "capacity") table >>= whole 0 999
  influence ← get_member (codes "influence") table >>= signed 100000
  Some (record { capacity = capacity; influence = influence })

-- `[kind, most]`
abbrev pub fit : Data → Option Fit
fit d = do
  parts ← pair d
  kind ← text is_kind parts.0
  most ← listed_mass parts.1
  Some (record { kind = kind; most = most })

-- whether a position is bulk, by its key `bulk`: an absent key means `false`
abbrev pub is_bulk : Option Data → Option Bool
is_bulk None = Some false
is_bulk (Some d) = as_bool d

-- what a position accepts, by its key `fits`, which is present exactly where the position is not bulk
abbrev pub fits_of : Bool → Option Data → Option (List Fit)
fits_of true None = Some []
fits_of true (Some d) = None
fits_of false None = None
fits_of false (Some d) = array_of fit d

-- a position except for what it accepts: its name, its compartment, its influence, and whether it is bulk
abbrev pub head_of : Members → Option Head
head_of table = do
  name ← get_member (codes "name") table >>= text is_name
  compartment ← get_member (codes "compartment") table >>= whole 0 9
  influence ← get_member (codes "influence") table >>= signed 999999999
  bulk ← is_bulk (get_member (codes "bulk") table)
  Some (record { name = name; compartment = compartment; influence = influence; bulk = bulk })

-- a position: a table with all of these
abbrev pub position_of : Data → Option Position
position_of d = do
  table ← as_table d
  head ← head_of table
  fits ← fits_of head.bulk (get_member (codes "fits") table)
  Some (record { name = head.name; compartment = head.compartment; influence = head.influence; bulk = head.bulk; fits = fits })

-- the number of the position that a text names, and 255 for each beyond that: a hold with so many positions is refused for having too many
abbrev pub named_position : List Position → Data → Option ℕ
named_position positions d = do
  name ← as_str d
  number ← number_named positions name
  Some (min number 255)

-- the position that a text names, on this side
abbrev pub named_side : Bool → List Position → Data → Option NamedSide
named_side right positions d = do
  name ← as_str d
  number ← number_named positions name
  Some (record { number = number; right = right })

-- `[name, name]`: two positions of which only one may be used
abbrev pub exclude : List Position → Data → Option (ℕ × ℕ)
exclude positions d = do
  parts ← pair d
  one ← named_position positions parts.0
  other ← named_position positions parts.1
  Some (one, other)

-- `[most, name, ..]`, with at least one name: a combined limit
abbrev pub combined : List Position → Data → Option Combined
combined positions d = do
  parts ← first_and_more d
  most ← listed_mass parts.0
  places ← each (named_position positions) parts.1
  Some (record { places = places; most = most })

-- `[name, most]`: a cumulative limit of that side
abbrev pub cumulative : Bool → List Position → Data → Option Cumulative
cumulative forward positions d = do
  parts ← pair d
  place ← named_position positions parts.0
  most ← listed_mass parts.1
  Some (record { forward = forward; place = place; most = most })
