-- an office that several desks have together
use Rattle.std.specs.Prelude.{◌≡◌, ◌+◌, ◌<◌, ◌≤◌, ◌-◌, ◌^◌, ℕ, List, ◌++◌, length, min}
use Rattle.flight_history.specs.declared.entry.Entry.{Entry}
use Rattle.desk_service.specs.Alone.{Counted, failures}

-- how many more entries the machine has room for: those that are spare, as far as tickets can be counted
abbrev pub room_for : Counted → ℕ
room_for moment = min moment.books.spare (2 ^ 63 - 1)

-- What stands between two moments of the office, the earlier one first: entries were added, each in a place that was spare; and
-- the keeper counted as many faults at least as entries were not kept because of it, where its count is not at the last value
-- that a counter has
pub record IsAfter (old new : Counted) : Type 0 where
  pub rest : List Entry
  pub fleet : new.books.fleet ≡ old.books.fleet
  pub rows : new.books.rows ≡ old.books.rows
  pub opening : new.books.opening ≡ old.books.opening
  pub history : new.books.history ≡ old.books.history ++ rest
  pub spare : new.books.spare + length rest ≡ old.books.spare
  pub later : old.faults ≤ new.faults
  pub counted : new.faults < 2 ^ 64 - 1 → old.faults + failures rest ≤ new.faults
