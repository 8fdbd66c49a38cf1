-- why a text is refused
use Rattle.std.specs.Prelude.{◌≡◌, ◌⊎◌, ℕ, ◌+◌, List, [], ◌∷◌, All, Option, Some, None}
use Rattle.hold_limits.specs.Problem.{Problem}
use Rattle.hold_limits.specs.Faults.{hold_fault, task_fault}
use Rattle.text_lines.specs.Grammar.{Fails}
use Rattle.text_lines.specs.Stated.{AreLinesOf}
use Rattle.text_lines.specs.declared.fault.LineFault.{LineFault}
use Rattle.text_lines.specs.declared.fault.LineFault.TheVariants as line
use Rattle.problem_text.specs.Reading.{IsFaultOf}
use Rattle.problem_text.specs.declared.fault.TextFault.{TextFault}
use Rattle.stop_tasks.specs.StopFaults.{IsStopFault}
use Rattle.stop_tasks.specs.declared.fault.StopFault.{StopFault}
use Rattle.stop_text.specs.StopFile.{StopFile, file_lines, sectors_of, stops_of_file, IsSpelledFile, Spells}
use Rattle.stop_text.specs.declared.fault.StopTextFault.{StopTextFault}
use Rattle.stop_text.specs.declared.fault.StopTextFault.TheVariants.{Line, NoEnd, Task, Stop, NoMemory}

-- there is a third task
abbrev pub IsThere : Option Problem → Type 0
IsThere None = ⊥
IsThere (Some t) = Unit {0}

-- these are all lines of a file, with three tasks
abbrev pub AreStopFile : List (List ℕ) → Type 0
AreStopFile = AreLinesOf (λ (file : StopFile). IsSpelledFile file × IsThere file.third) file_lines

abbrev pub SpellsNothing : List ℕ → Type 0
SpellsNothing text = (file : StopFile) → Spells text file → ⊥

-- why a text is not made of the lines of a file. One that is not made of those of a file with two tasks is to be made
-- of those of a file with three
pub data HasWrongLines (text : List ℕ) (fault : LineFault) : Type 0 where
  wrong : SpellsNothing text → Fails AreStopFile text 1 fault → HasWrongLines text fault
  memory : fault ≡ line.NoMemory → HasWrongLines text fault

-- a fault of the lines, as a fault of the text
abbrev pub stop_text_fault : LineFault → StopTextFault
stop_text_fault (line.Line n) = Line n
stop_text_fault line.NoEnd = NoEnd
stop_text_fault line.NoMemory = NoMemory

-- the task is lawful
abbrev pub HasNoFault : Problem → Type 0
HasNoFault t = (hold_fault t.hold ≡ None) × (task_fault t ≡ None)

-- the first task that is not lawful is that of the sector with this number, counted from 1, and this is its fault
abbrev pub IsFirstFault : List Problem → ℕ → TextFault → Type 0
IsFirstFault [] number fault = ⊥
IsFirstFault (t ∷ ts) number fault =
    ((number ≡ 1) × IsFaultOf t fault) ⊎ (HasNoFault t × ((earlier : ℕ) × (number ≡ earlier + 1) × IsFirstFault ts earlier fault))

-- why what a file says is no lawful load
pub data IsLoadFault (file : StopFile) : StopTextFault → Type 0 where
  -- a task is not lawful
  wrong_task : (number : ℕ) (fault : TextFault) → IsFirstFault (sectors_of file) number fault → IsLoadFault file (Task number fault)
  -- the tasks are lawful, and the load is not
  wrong_load : (fault : StopFault) → All HasNoFault (sectors_of file) → IsStopFault (stops_of_file file) fault → IsLoadFault file (Stop fault)
  -- running out of memory has no cause in the text
  no_memory : IsLoadFault file NoMemory

-- the text is refused for this fault: of its lines, or else of what they say
pub data IsRefusedStops (text : List ℕ) : StopTextFault → Type 0 where
  by_lines : (fault : LineFault) → HasWrongLines text fault → IsRefusedStops text (stop_text_fault fault)
  by_load : (file : StopFile) (fault : StopTextFault) → Spells text file → IsLoadFault file fault → IsRefusedStops text fault
