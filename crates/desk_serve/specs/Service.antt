-- an office that serves doors, from its opening until it is closed
use Rattle.std.specs.Prelude.{◌≡◌, ◌+◌, ◌-◌, ◌<◌, ◌≤◌, ◌^◌, ℕ, List, Option}
use Rattle.flight_history.specs.declared.entry.Entry.{Entry}
use Rattle.flight_state.specs.declared.state.FlightState.{FlightState}
use Rattle.keeper.specs.Tables.{Tables}
use Rattle.editions.specs.Books.{Books, HasTables}
use Rattle.desk_service.specs.Several.{IsAfter}
use Rattle.desk_service.specs.Turns.{setting_of}
use Rattle.desk_serve.specs.Doors.{keeper_failures, AreServedDoors, EndAs}
use Rattle.desk_serve.specs.declared.ending.DoorsEnd.{DoorsEnd}

module _ {D L : Type 0} (coming_of handed_of : D → Option (List L)) (faults_of : D → ℕ)
    (input_of output_of : L → Option (List ℕ)) (reads_of writes_of : L → ℕ) where
  -- An office that opened with these books served the doors as one history. An entry is lacking only where no place is spare any
  -- more. The tables that are left are those of the history, and the answers 503 at all doors are no more than the failures that the
  -- keeper counted, where its count is not at the last value that a counter has
  pub record IsOneHistory (opened : Books) (held' : Option Tables) (faults faults' : ℕ) (ds ds' : List D) (ending : DoorsEnd)
      (opening : List FlightState) (history : List Entry) : Type 0 where
    pub closed : Books
    pub opening_is : opening ≡ closed.opening
    pub history_is : history ≡ closed.history
    pub after : IsAfter (record { books = opened; faults = faults }) (record { books = closed; faults = faults' })
    pub doors : AreServedDoors coming_of handed_of faults_of input_of output_of reads_of writes_of
        (setting_of opened) (closed.spare ≡ 0) history ds ds'
    pub failures : faults' < 2 ^ 64 - 1 → faults + keeper_failures doors.connections ≤ faults'
    pub ended : EndAs coming_of handed_of faults_of ending ds ds'
    pub tables : HasTables held' closed
