-- what a run of several desks leaves
use Rattle.std.specs.Prelude.{◌≡◌, ℕ, ◌≤◌, List, Option, IfSome}
use Rattle.load_io.specs.Shelf.{Files}
use Rattle.flight_state.specs.declared.state.FlightState.{FlightState}
use Rattle.flight_history.specs.declared.entry.Entry.{Entry}
use Rattle.keeper.specs.Tables.{Tables}
use Rattle.editions.specs.Books.{Books}
use Rattle.editions.specs.Starting.{IsStarted}
use Rattle.desk_fleet.specs.Fleet.{IsFleet}
use Rattle.desk_serve.specs.Service.{IsOneHistory}
use Rattle.desk_serve.specs.declared.ending.DoorsEnd.{DoorsEnd}

-- an office reserves so many entries for doors
abbrev pub reserved_for_doors : ℕ
reserved_for_doors = 1000000

-- tables that are exposed before and after have the same rows
abbrev pub HaveSameRows : Option Tables → Option Tables → Type 0
HaveSameRows before after = IfSome before (λ held. IfSome after (λ now. (key : List ℕ) → now key ≡ held key))

module _ {D L : Type 0} (coming_of handed_of : D → Option (List L)) (faults_of : D → ℕ)
    (input_of output_of : L → Option (List ℕ)) (reads_of writes_of : L → ℕ) where
  -- an office was opened on the fleet of these files and on these tables, and then served the doors
  pub record IsRunOfDoors (exposed : Option Files) (names : List (List ℕ)) (held held' : Option Tables) (faults faults' : ℕ) (ds ds' : List D)
      (ending : DoorsEnd) (opening : List FlightState) (history : List Entry) : Type 0 where
    pub opened : Books
    pub of_files : IfSome exposed (λ files. IsFleet files names opened.fleet)
    pub started : IsStarted opened.fleet reserved_for_doors held opened
    -- the count of faults when the office had been opened
    pub loaded : ℕ
    pub since : faults ≤ loaded
    pub served : IsOneHistory coming_of handed_of faults_of input_of output_of reads_of writes_of
        opened held' loaded faults' ds ds' ending opening history
