-- an office that one desk has for itself
use Rattle.std.specs.Prelude.{◌≡◌, ◌+◌, ◌<◌, ◌≤◌, ◌-◌, ◌^◌, ℕ, Bool, true, false, List, ◌++◌, length, count_by, All}
use Rattle.flight_history.specs.declared.entry.Entry.{Entry}
use Rattle.flight_history.specs.declared.entry.Outcome.{Outcome}
use Rattle.flight_history.specs.declared.entry.Outcome.TheVariants.{KeeperFailed}
use Rattle.editions.specs.Books.{Books}

-- the books of the office, and how many faults its keeper has counted
pub record Counted : Type 0 where
  pub books : Books
  pub faults : ℕ

abbrev pub is_failure : Outcome → Bool
is_failure KeeperFailed = true
is_failure _ = false

-- how many of these entries were not kept because the keeper failed
abbrev pub failures : List Entry → ℕ
failures entries = count_by (λ (entry : Entry). is_failure entry.outcome) entries

-- What stands between two moments of the office, the earlier one first: entries of desk 1 alone were added, each in a place that
-- was spare; and the keeper counted as many faults at least as entries were not kept because of it, where its count is not at the
-- last value that a counter has
pub record IsLater (old new : Counted) : Type 0 where
  pub rest : List Entry
  pub fleet : new.books.fleet ≡ old.books.fleet
  pub rows : new.books.rows ≡ old.books.rows
  pub opening : new.books.opening ≡ old.books.opening
  pub history : new.books.history ≡ old.books.history ++ rest
  pub spare : new.books.spare + length rest ≡ old.books.spare
  pub by_desk : All (λ (entry : Entry). entry.desk ≡ 1) rest
  pub later : old.faults ≤ new.faults
  pub counted : new.faults < 2 ^ 64 - 1 → old.faults + failures rest ≤ new.faults
