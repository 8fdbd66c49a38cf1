-- the office of one desk: the arguments that ask for it, and how its run ends
use Rattle.std.specs.Prelude.{◌≡◌, ◌≢◌, ℕ, ◌≤◌, ◌⊎◌, List, [], ◌∷◌, length, All, codes, Option}
use Rattle.base_words.specs.Faults.{Rose}
use Rattle.load_io.specs.Shelf.{Files}
use Rattle.load_io.specs.Sink.{Appends, AppendsPart}
use Rattle.keeper.specs.Tables.{Tables}
use Rattle.flight_state.specs.declared.state.FlightState.{FlightState}
use Rattle.flight_history.specs.declared.entry.Entry.{Entry}
use Rattle.plan_text.specs.PlanText.{one_line}
use Rattle.desk_fleet.specs.FleetText.{refusal_text}
use Rattle.desk_fleet.specs.declared.fault.RefusedFile.{RefusedFile}
use Rattle.desk_http.specs.declared.ending.ConnEnd.{ConnEnd}
use Rattle.desk_http.specs.declared.ending.ConnEnd.TheVariants as end
use Rattle.desk_run.specs.Faults.{IsNotOpened, HaveRefusedFile, ReportsFile}
use Rattle.desk_run.specs.Runs.{Line, IsRunOf}
use Rattle.desk_run.specs.Servable.{CanServe}
use Rattle.desk_run.specs.declared.fault.DeskFault.{DeskFault}
use Rattle.desk_run.specs.declared.fault.DeskFault.TheVariants.{Fleet, Unread, Keeper, BadTable, TooMany, NoMemory}
use Rattle.plan_commands.specs.Arguments.{BeginsWithMinus}
use Rattle.plan_commands.specs.Run.{Outside, outside, ExitsWith}

-- Arguments -------------------------------------------------------------------------------------

-- an office has at most so many aircraft
abbrev pub most_aircraft : ℕ
most_aircraft = 64

-- the name of a store has so many bytes at most
abbrev pub longest_store : ℕ
longest_store = 255

-- the argument names a store: the memory as `:memory:`, or else a file
pub record IsStoreName (name : List ℕ) : Type 0 where
  pub some : 1 ≤ length name
  pub few : length name ≤ longest_store

-- `desk STORE AIRCRAFT ..`: the arguments ask for an office whose rows are kept in a store, with the aircraft in these files
pub record AskForDesk (arguments names : List (List ℕ)) : Type 0 where
  pub store : List ℕ
  pub form : arguments ≡ codes "desk" ∷ store ∷ names
  pub named : IsStoreName store
  pub some : 1 ≤ length names
  pub few : length names ≤ most_aircraft
  pub plain : All (λ argument. BeginsWithMinus argument → ⊥) arguments

-- they ask for an office whose rows are kept in this file
pub record AskForFile (arguments : List (List ℕ)) (file : List ℕ) : Type 0 where
  pub names : List (List ℕ)
  pub desk : AskForDesk arguments names
  pub same : desk.store ≡ file
  pub not_in_memory : file ≢ codes ":memory:"

-- Endings ---------------------------------------------------------------------------------------

-- the exit status where the desk's connection ended so
abbrev pub status_of_end : ConnEnd → ℕ
status_of_end end.Ended = 0
status_of_end (end.Refused reason) = 3
status_of_end end.ReadFault = 6
status_of_end end.WriteFault = 7
status_of_end end.Served = 13

-- the exit status where the desk was not opened
abbrev pub status_of_fault : DeskFault → ℕ
status_of_fault (Fleet file) = 3
status_of_fault Unread = 6
status_of_fault Keeper = 8
status_of_fault NoMemory = 9
status_of_fault (BadTable key) = 12
status_of_fault TooMany = 12

-- what is printed where the desk was not opened
abbrev pub fault_text : DeskFault → List ℕ
fault_text (Fleet file) = refusal_text file
fault_text Unread = []
fault_text Keeper = one_line (codes "STORE" ∷ codes "FAULT" ∷ [])
fault_text NoMemory = []
fault_text (BadTable key) = one_line (codes "TABLE" ∷ key ∷ [])
fault_text TooMany = one_line (codes "TABLE" ∷ codes "FULL" ∷ [])

-- Runs ------------------------------------------------------------------------------------------

-- all that is outside of a run: the files, the rows that are kept, and the input and the output, as far as they are exposed, and
-- how many of their calls have failed
pub record Surroundings : Type 0 where
  pub files : Option Files
  pub failed_files : ℕ
  pub tables : Option Tables
  pub failed_rows : ℕ
  pub line : Line

abbrev pub surroundings : Option Files → ℕ → Option Tables → ℕ → Line → Surroundings
surroundings files failed_files tables failed_rows line =
    record { files = files; failed_files = failed_files; tables = tables; failed_rows = failed_rows; line = line }

-- what a printed reply has to do with
abbrev pub printing : Surroundings → Outside
printing all = outside all.files all.failed_files all.line.output all.line.failed_writes

-- nothing was read of the input
pub record IsUnheard (before after : Line) : Type 0 where
  pub input : after.input ≡ before.input
  pub reads : after.failed_reads ≡ before.failed_reads

-- the desk with the aircraft in these files was not opened, for this fault
pub record IsUnopened (names : List (List ℕ)) (before after : Surroundings) (fault : DeskFault) : Type 0 where
  pub cause : IsNotOpened before.files names before.tables fault
  -- a refused file is reported, unless a file could not be read or memory ran out
  pub refused : (file : RefusedFile) → HaveRefusedFile before.files names file → ReportsFile file fault
  pub unread : fault ≡ Unread → Rose before.failed_files after.failed_files
  pub read : fault ≢ Unread → after.failed_files ≡ before.failed_files
  -- only a keeper that fails counts it
  pub failed : fault ≡ Keeper → Rose before.failed_rows after.failed_rows
  pub kept : fault ≢ Keeper → after.failed_rows ≡ before.failed_rows
  pub unheard : IsUnheard before.line after.line

-- what is printed for the fault, and the exit status
pub data IsReported (fault : DeskFault) (output output' : Option (List ℕ)) (writes writes' : ℕ) : ℕ → Type 0 where
  -- all of it
  whole : Appends output output' (fault_text fault) → writes' ≡ writes → IsReported fault output output' writes writes' (status_of_fault fault)
  -- a write failed, and a proper prefix of it was printed
  cut : AppendsPart output output' (fault_text fault) → Rose writes writes' → IsReported fault output output' writes writes' 7
  -- memory ran out, and nothing was printed
  no_memory : output' ≡ output → writes' ≡ writes → IsReported fault output output' writes writes' 9

-- how a run of a desk with the aircraft in these files ends
pub data EndsDesk (names : List (List ℕ)) (before after : Surroundings) (opening : List FlightState) (history : List Entry) : ℕ → Type 0 where
  -- no file is refused; it was opened, and served its connection
  served : (ending : ConnEnd) → ((file : RefusedFile) → HaveRefusedFile before.files names file → ⊥)
      → IsRunOf before.files names before.tables after.tables before.failed_rows after.failed_rows before.line after.line ending opening history
      → after.failed_files ≡ before.failed_files → EndsDesk names before after opening history (status_of_end ending)
  -- it was not opened, as the output says, and the rows are as they were handed in
  unopened : {status : ℕ} (fault : DeskFault) → IsUnopened names before after fault
      → IsReported fault before.line.output after.line.output before.line.failed_writes after.line.failed_writes status
      → after.tables ≡ before.tables → opening ≡ [] → history ≡ [] → EndsDesk names before after opening history status

-- no call to what is outside has failed
pub record NoneFailed (before after : Surroundings) : Type 0 where
  pub files : Rose before.failed_files after.failed_files → ⊥
  pub rows : Rose before.failed_rows after.failed_rows → ⊥
  pub reads : Rose before.line.failed_reads after.line.failed_reads → ⊥
  pub writes : Rose before.line.failed_writes after.line.failed_writes → ⊥

-- how a run of a desk with the aircraft in these files ends where no call fails
pub record IsComplete (names : List (List ℕ)) (before after : Surroundings) (status : ℕ) : Type 0 where
  -- a desk that can be served is served to the end of its connection, or memory ran out
  pub served : CanServe before.files names before.tables before.line.input → NoneFailed before after → (status ≡ 0) ⊎ ((status ≡ 13) ⊎ (status ≡ 9))
  -- a refused file ends the run with 3, or memory ran out
  pub refused : (file : RefusedFile) → HaveRefusedFile before.files names file → NoneFailed before after → (status ≡ 3) ⊎ (status ≡ 9)

-- a run with arguments that ask for no desk: a reply is printed, and neither the input nor the rows are used
pub record PrintsAlone (arguments : List (List ℕ)) (before after : Surroundings) (status : ℕ) (opening : List FlightState) (history : List Entry) : Type 0 where
  pub no_desk : (names : List (List ℕ)) → AskForDesk arguments names → ⊥
  pub exits : ExitsWith arguments (printing before) (printing after) status
  pub tables : after.tables ≡ before.tables
  pub failed : after.failed_rows ≡ before.failed_rows
  pub unheard : IsUnheard before.line after.line
  pub unopened : opening ≡ []
  pub unasked : history ≡ []

-- a run with these arguments, which exits with this status and leaves this opening and this history
pub data Runs (arguments : List (List ℕ)) (before after : Surroundings) (status : ℕ) (opening : List FlightState) (history : List Entry) : Type 0 where
  printed : PrintsAlone arguments before after status opening history → Runs arguments before after status opening history
  asked_desk : (names : List (List ℕ)) → AskForDesk arguments names → after.files ≡ before.files → before.failed_rows ≤ after.failed_rows
      → EndsDesk names before after opening history status → IsComplete names before after status → Runs arguments before after status opening history
  -- memory ran out before anything else happened
  no_memory : after ≡ before → opening ≡ [] → history ≡ [] → status ≡ 9 → Runs arguments before after status opening history
