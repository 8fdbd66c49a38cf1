-- the office of several desks: the arguments that ask for it, and how its run ends
use Rattle.std.specs.Prelude.{◌≡◌, ◌≢◌, ◌⊎◌, ℕ, ◌+◌, ◌≤◌, List, [], ◌∷◌, length, All, codes, Option}
use Rattle.mass_units.specs.Spelling.{number_text}
use Rattle.flight_state.specs.declared.state.FlightState.{FlightState}
use Rattle.flight_history.specs.declared.entry.Entry.{Entry}
use Rattle.desk_fleet.specs.declared.fault.RefusedFile.{RefusedFile}
use Rattle.desk_serve.specs.Doors.{EndAs}
use Rattle.desk_serve.specs.declared.ending.DoorsEnd.{DoorsEnd}
use Rattle.desk_serve.specs.declared.ending.DoorsEnd.TheVariants.{Closed, Failed}
use Rattle.desk_run.specs.Faults.{HaveRefusedFile}
use Rattle.desk_run.specs.DoorRuns.{IsRunOfDoors, HaveSameRows}
use Rattle.desk_run.specs.Servable.{CanOpen}
use Rattle.desk_run.specs.declared.fault.DeskFault.{DeskFault}
use Rattle.desk_run.specs.declared.fault.DeskFault.TheVariants.{NoMemory}
use Rattle.plan_commands.specs.Arguments.{BeginsWithMinus}
use Rattle.loadctl.specs.Desk.{most_aircraft, IsStoreName, AskForFile, Surroundings, IsUnopened, IsReported, NoneFailed, Runs}

-- an office has at most so many desks
abbrev pub most_desks : ℕ
most_desks = 8

-- the number behind the last port
abbrev pub ports_end : ℕ
ports_end = 65536

-- `serve N PORT STORE AIRCRAFT ..`: the arguments ask for an office of so many desks at so many ports, the first of which is this,
-- whose rows are kept in a store, with the aircraft in these files
pub record AskForServe (arguments : List (List ℕ)) (desks port : ℕ) (names : List (List ℕ)) : Type 0 where
  pub store : List ℕ
  pub form : arguments ≡ codes "serve" ∷ number_text desks ∷ number_text port ∷ store ∷ names
  pub some_desks : 1 ≤ desks
  pub few_desks : desks ≤ most_desks
  pub first : 1 ≤ port
  pub last : port + desks ≤ ports_end
  pub named : IsStoreName store
  pub some : 1 ≤ length names
  pub few : length names ≤ most_aircraft
  pub plain : All (λ argument. BeginsWithMinus argument → ⊥) arguments

-- they ask for no office of several desks
abbrev pub AskForNoServe : List (List ℕ) → Type 0
AskForNoServe arguments = (desks port : ℕ) (names : List (List ℕ)) → AskForServe arguments desks port names → ⊥

-- there are as many doors as the arguments ask for desks
abbrev pub AreDoorsFor : List (List ℕ) → ℕ → Type 0
AreDoorsFor arguments doors = (desks port : ℕ) (names : List (List ℕ)) → AskForServe arguments desks port names → doors ≡ desks

-- the exit status where the work at the doors ended so
abbrev pub status_of_doors : DoorsEnd → ℕ
status_of_doors Closed = 0
status_of_doors Failed = 11

module _ {D L : Type 0} (coming_of handed_of : D → Option (List L)) (faults_of : D → ℕ) where
  -- how a run of several desks with the aircraft in these files ends where no call to what is outside fails, but for those of the doors
  pub record IsCompleteAtDoors (names : List (List ℕ)) (before after : Surroundings) (ds ds' : List D) (status : ℕ) : Type 0 where
    -- an office that can be opened serves its doors until each is closed, or some one fails, or memory ran out before
    pub served : CanOpen before.files names before.tables → NoneFailed before after
        → (status ≡ 0) ⊎ (((status ≡ 11) × EndAs coming_of handed_of faults_of Failed ds ds') ⊎ (status ≡ 9))
    -- a refused file ends the run with 3, or memory ran out
    pub refused : (file : RefusedFile) → HaveRefusedFile before.files names file → NoneFailed before after → (status ≡ 3) ⊎ (status ≡ 9)

module _ {D L : Type 0} (coming_of handed_of : D → Option (List L)) (faults_of : D → ℕ)
    (input_of output_of : L → Option (List ℕ)) (reads_of writes_of : L → ℕ) where
  -- how a run of several desks with the aircraft in these files ends
  pub data EndsServe (names : List (List ℕ)) (before after : Surroundings) (ds ds' : List D) (opening : List FlightState) (history : List Entry) : ℕ → Type 0 where
    -- no file is refused; the office was opened, and served the doors
    served : (ending : DoorsEnd) → ((file : RefusedFile) → HaveRefusedFile before.files names file → ⊥)
        → IsRunOfDoors coming_of handed_of faults_of input_of output_of reads_of writes_of before.files names before.tables after.tables
        before.failed_rows after.failed_rows ds ds' ending opening history
        → after.failed_files ≡ before.failed_files → after.line ≡ before.line
        → EndsServe names before after ds ds' opening history (status_of_doors ending)
    -- it was not opened, as the output says, and no door was asked; the rows are as they were handed in, unless memory ran out
    unopened : {status : ℕ} (fault : DeskFault) → IsUnopened names before after fault
        → IsReported fault before.line.output after.line.output before.line.failed_writes after.line.failed_writes status
        → (fault ≢ NoMemory → after.tables ≡ before.tables) → HaveSameRows before.tables after.tables → ds' ≡ ds → opening ≡ [] → history ≡ [] → EndsServe names before after ds ds' opening history status

  -- a run with these arguments and these doors, which exits with this status and leaves this opening and this history
  pub data RunsAtDoors (arguments : List (List ℕ)) (before after : Surroundings) (ds ds' : List D) (status : ℕ)
      (opening : List FlightState) (history : List Entry) : Type 0 where
    -- a run for which no door is asked
    without : AskForNoServe arguments → Runs arguments before after status opening history → ds' ≡ ds
        → RunsAtDoors arguments before after ds ds' status opening history
    asked_serve : (desks port : ℕ) (names : List (List ℕ)) → AskForServe arguments desks port names → after.files ≡ before.files
        → before.failed_rows ≤ after.failed_rows → EndsServe names before after ds ds' opening history status
        → IsCompleteAtDoors coming_of handed_of faults_of names before after ds ds' status
        → RunsAtDoors arguments before after ds ds' status opening history

-- the arguments ask for an office, of one desk or of several, whose rows are kept in this file
pub data KeepIn (arguments : List (List ℕ)) (file : List ℕ) : Type 0 where
  one_desk : AskForFile arguments file → KeepIn arguments file
  several : (desks port : ℕ) (names : List (List ℕ)) → (asked : AskForServe arguments desks port names) → asked.store ≡ file → file ≢ codes ":memory:"
      → KeepIn arguments file
