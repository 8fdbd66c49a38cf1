-- rows in the order of their keys
use Rattle.std.specs.Prelude.{◌≡◌, ℕ, List, [], ◌∷◌, length, Result, MatchResult}
use Rattle.std.specs.List.{HoldsAt}
use Rattle.std.specs.List.Sorted.{IsSearchInRange, IsPartitionPoint}
use Rattle.std.specs.Ordering.{nat_cmp}
use Rattle.std.specs.Cmp.Lexicographic.{slice_cmp}
use Rattle.std.specs.declared.cmp.Ordering.{Ordering}
use Rattle.std.specs.declared.cmp.Ordering.TheVariants.{Less, Equal, Greater}
use Rattle.keeper.specs.declared.row.KeptRow.{KeptRow}

-- a row put before a kept one, in its place, or further on
abbrev pub put_by : Ordering → KeptRow → KeptRow → List KeptRow → List KeptRow → List KeptRow
put_by Less row kept rows further = row ∷ kept ∷ rows
put_by Equal row kept rows further = row ∷ rows
put_by Greater row kept rows further = kept ∷ further

-- the rows with this one at its place in the order of the keys; it takes the place of one with its key
abbrev pub with_row : KeptRow → List KeptRow → List KeptRow
with_row row [] = row ∷ []
with_row row (kept ∷ rows) = put_by (slice_cmp nat_cmp row.key kept.key) row kept rows (with_row row rows)

-- how the key of a kept row stands to a key
abbrev pub key_order : List ℕ → KeptRow → Ordering
key_order key kept = slice_cmp nat_cmp kept.key key

-- the place of the row under the key, or else the one behind all rows with lesser keys and before all with greater ones
pub record IsPlaceOf (key : List ℕ) (rows : List KeptRow) (place : Result ℕ ℕ) : Type 0 where
  pub within : IsSearchInRange place (length rows)
  pub is : MatchResult place
      (HoldsAt (λ (kept : KeptRow). key_order key kept ≡ Equal) rows)
      (IsPartitionPoint (λ (kept : KeptRow). key_order key kept ≡ Less) (λ (kept : KeptRow). key_order key kept ≡ Greater) rows)
