-- the tables of a keeper, unless they are hidden
use Rattle.std.specs.Prelude.{◌≡◌, ℕ, List, Option, Some, None, if◌then◌else◌, bytes_eq, find, option_map, IfSome, AllPairs}
use Rattle.std.specs.Ordering.{nat_cmp}
use Rattle.std.specs.Cmp.Lexicographic.{slice_cmp}
use Rattle.std.specs.declared.cmp.Ordering.TheVariants.{Less}
use Rattle.keeper.specs.declared.row.KeptRow.{KeptRow}

-- the bytes under each key, None where there is no row of that key
abbrev pub Tables : Type 0
Tables = List ℕ → Option (List ℕ)

-- a row under this key with these bytes was added, or took the place of the one that was there; every other row is as
-- before. Hidden tables stay hidden
abbrev pub HoldsAfter : Option Tables → Option Tables → KeptRow → Type 0
HoldsAfter None new row = new ≡ None
HoldsAfter (Some held) None row = ⊥
HoldsAfter (Some held) (Some now) row =
    (key : List ℕ) → now key ≡ (if bytes_eq row.key key then Some row.bytes else held key)

-- the first key comes before the second, as texts are ordered
abbrev pub IsBefore : KeptRow → KeptRow → Type 0
IsBefore one other = slice_cmp nat_cmp one.key other.key ≡ Less

-- the keys rise strictly
abbrev pub AreInKeyOrder : List KeptRow → Type 0
AreInKeyOrder rows = AllPairs IsBefore rows

-- the bytes under the key, in a list of rows
abbrev pub bytes_under : List KeptRow → Tables
bytes_under rows key = option_map (λ (row : KeptRow). row.bytes) (find (λ (row : KeptRow). bytes_eq row.key key) rows)

-- these are all rows of the tables, unless the tables are hidden
abbrev pub AreAllRows : Option Tables → List KeptRow → Type 0
AreAllRows exposed rows = IfSome exposed (λ held. (key : List ℕ) → held key ≡ bytes_under rows key)
