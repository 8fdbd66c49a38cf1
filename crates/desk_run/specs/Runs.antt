-- what a run of a desk leaves
use Rattle.std.specs.Prelude.{◌≡◌, ◌≢◌, ℕ, ◌+◌, ◌-◌, ◌<◌, ◌≤◌, ◌^◌, List, [], All, count_by, Option, IfSome}
use Rattle.load_io.specs.Shelf.{Files}
use Rattle.flight_state.specs.declared.state.FlightState.{FlightState}
use Rattle.flight_history.specs.declared.entry.Entry.{Entry}
use Rattle.keeper.specs.Tables.{Tables}
use Rattle.editions.specs.Books.{Books, HasTables}
use Rattle.editions.specs.Starting.{IsStarted}
use Rattle.desk_fleet.specs.Fleet.{IsFleet}
use Rattle.desk_http.specs.Served.{Connected}
use Rattle.desk_http.specs.declared.ending.ConnEnd.{ConnEnd}
use Rattle.desk_service.specs.Alone.{IsLater}
use Rattle.desk_service.specs.Exchanges.{Exchange}
use Rattle.desk_service.specs.Laws.{has_status}
use Rattle.desk_service.specs.Turns.{setting_of}

-- an office reserves so many entries for one connection
abbrev pub reserved : ℕ
reserved = 2000

-- the input and the output, as far as they are exposed, and how many reads and writes have failed
pub record Line : Type 0 where
  pub input : Option (List ℕ)
  pub output : Option (List ℕ)
  pub failed_reads : ℕ
  pub failed_writes : ℕ

abbrev pub line : Option (List ℕ) → Option (List ℕ) → ℕ → ℕ → Line
line input output failed_reads failed_writes = record { input = input; output = output; failed_reads = failed_reads; failed_writes = failed_writes }

-- an office that was opened with these books served one connection from before to after, as desk 1, with this history; the tables
-- that are left are those of the history, and each failure of the keeper in it was counted
pub record IsServed (opened : Books) (held' : Option Tables) (faults faults' : ℕ) (before after : Line) (ending : ConnEnd) (opening : List FlightState)
    (history : List Entry) : Type 0 where
  pub closed : Books
  pub opening_is : opening ≡ closed.opening
  pub history_is : history ≡ closed.history
  pub later : IsLater (record { books = opened; faults = faults }) (record { books = closed; faults = faults' })
  pub served : Connected (λ (l : Line). l.input) (λ (l : Line). l.output) (λ (l : Line). l.failed_reads) (λ (l : Line). l.failed_writes)
      (setting_of opened) (opened.spare ≡ 0) (closed.spare ≡ 0) 1 [] history before after ending
  pub tables : HasTables held' closed

-- an office was opened on the fleet of these files and on these tables, and then served one connection
pub record IsRunOf (exposed : Option Files) (names : List (List ℕ)) (held held' : Option Tables) (faults faults' : ℕ) (before after : Line)
    (ending : ConnEnd) (opening : List FlightState) (history : List Entry) : Type 0 where
  pub opened : Books
  pub of_files : IfSome exposed (λ files. IsFleet files names opened.fleet)
  pub started : IsStarted opened.fleet reserved held opened
  -- the count of faults when the office had been opened
  pub loaded : ℕ
  pub since : faults ≤ loaded
  pub served : IsServed opened held' loaded faults' before after ending opening history
  -- no answer is 507: there is room for each entry
  pub room : All (λ (x : Exchange). x.answer.status ≢ 507) served.served.served.exchanges
  -- the answers 503 are no more than the failures that the keeper counted, where its count is not at the last value that a counter has
  pub failures : faults' < 2 ^ 64 - 1 → faults + count_by (has_status 503) served.served.served.exchanges ≤ faults'
