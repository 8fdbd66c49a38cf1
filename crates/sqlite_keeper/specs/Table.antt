-- the table of rows, and the statements on it
use Rattle.std.specs.Prelude.{◌≡◌, ℕ, ◌+◌, List, [], ◌∷◌, codes, length, map, Ok}
use Rattle.std.specs.List.{slice_index_or}
use Rattle.sqlite_value.specs.declared.value.Value.TheVariants.{Text, Blob}
use Rattle.sqlite_value.specs.Order.{Row, column}
use Rattle.sqlite_trees.specs.declared.store.Store.{Ghosts}
use Rattle.sqlite.specs.Held.{Held, state}
use Rattle.sqlite.specs.State.{HasCleanDisk, Shown, Executes}
use Rattle.keeper.specs.declared.row.KeptRow.{KeptRow}
use Rattle.keeper.specs.Tables.{IsBefore}

abbrev pub create_text : List ℕ
create_text = codes "CREATE TABLE IF NOT EXISTS flight (key TEXT PRIMARY KEY NOT NULL, bytes BLOB NOT NULL) STRICT"

abbrev pub upsert_text : List ℕ
upsert_text = codes "INSERT INTO flight (key, bytes) VALUES (?1, ?2) ON CONFLICT (key) DO UPDATE SET bytes = excluded.bytes"

abbrev pub select_text : List ℕ
select_text = codes "SELECT key, bytes FROM flight ORDER BY key"

-- a row in the table: its key as a text, and its bytes
abbrev pub stored : KeptRow → Row
stored row = Text row.key ∷ Blob row.bytes ∷ []

-- the first two columns of a row
abbrev pub columns : Row → Row
columns row = column row 0 ∷ column row 1 ∷ []

-- the row comes after the last one
abbrev pub ComesLast : List KeptRow → KeptRow → Type 0
ComesLast rows row = (k : ℕ) (d : KeptRow) → k + 1 ≡ length rows → IsBefore (slice_index_or rows k d) row

module _ {S : Type 0} (g : Ghosts S) where
  -- where the disk is clean, the statement was run and was not refused
  abbrev pub Makes : List ℕ → Row → Held S → Held S → Type 0
  Makes sql params old new = HasCleanDisk (state g new) → (count : ℕ) × Executes sql params (state g old) (state g new) (Ok count)

  -- where the disk is clean, the rows are those of the table, in the order of its query
  abbrev pub ShowAll : Held S → Held S → List KeptRow → Type 0
  ShowAll old new rows = HasCleanDisk (state g new) → (found : List Row) × Shown select_text [] (state g old) (state g new) found × (map columns found ≡ map stored rows)
