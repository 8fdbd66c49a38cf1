-- where a run keeps its rows
use Rattle.std.specs.Prelude.{ℕ, List, Option, None, Some}
use Rattle.keeper.specs.Tables.{Tables, bytes_under}
use Rattle.loadctl.specs.declared.stores.RowStore.{RowStore}
use Rattle.loadctl.specs.declared.stores.RowStore.TheVariants.{InFile, InMemory}

module _ {F : Type 0} where
  -- the tables of a store: those of the keeper of its file, or those that it has in memory
  abbrev pub tables_in : (F → Option Tables) → RowStore F → Option Tables
  tables_in of_file (InFile file) = of_file file
  tables_in of_file (InMemory rows) = Some (bytes_under rows)

  -- how many of its calls have failed: those of the keeper of its file; in memory none does
  abbrev pub faults_in : (F → ℕ) → RowStore F → ℕ
  faults_in of_file (InFile file) = of_file file
  faults_in of_file (InMemory rows) = 0

  -- the rows are in the file of this name, by a keeper that is at it, or in memory where no file is named
  abbrev pub IsStoreFor : (F → List ℕ → Type 0) → RowStore F → Option (List ℕ) → Type 0
  IsStoreFor is_at (InFile file) (Some name) = is_at file name
  IsStoreFor is_at (InMemory rows) None = Unit {0}
  IsStoreFor is_at _ _ = ⊥
