-- what the steps of the reader return
use Rattle.std.specs.Prelude.{◌≡◌, ◌≢◌, ℕ, ◌+◌, ◌-◌, List, [], ◌∷◌, ◌++◌, length, map, All, Bool, true, false, Option, Some, None, IfSome, Result, Ok, Err, codes}
use Rattle.hold_limits.specs.Problem.{Problem}
use Rattle.hold_limits.specs.Faults.{IsLawful}
use Rattle.text_lines.specs.Cuts.{Avoids}
use Rattle.text_lines.specs.Lines.{text_of}
use Rattle.text_lines.specs.Grammar.{Fails}
use Rattle.text_lines.specs.declared.fault.LineFault.{LineFault}
use Rattle.text_lines.specs.declared.fault.LineFault.TheVariants as line
use Rattle.problem_text.specs.TaskText.{task_lines, IsSpelled}
use Rattle.problem_text.specs.Reading.{IsFaultOf}
use Rattle.problem_text.specs.Refusals.{AreTask}
use Rattle.problem_text.specs.declared.fault.TextFault.{TextFault}
use Rattle.problem_text.specs.declared.fault.TextFault.TheVariants as text
use Rattle.stop_tasks.specs.StopFaults.{IsStopFault}
use Rattle.stop_tasks.specs.Stops.{Stops, stops_of}
use Rattle.stop_text.specs.StopFile.{StopFile, third_lines, third_sector, leaves_of, places_named}
use Rattle.stop_text.specs.StopRefusals.{IsFirstFault}
use Rattle.stop_text.specs.declared.parts.Leave.{Leave}
use Rattle.stop_text.specs.declared.parts.Tasks.{Tasks}
use Rattle.stop_text.specs.declared.fault.StopTextFault.{StopTextFault}
use Rattle.stop_text.specs.declared.fault.StopTextFault.TheVariants as stop
use Rattle.stop_text.specs.declared.parts.Sector.{Sector}
use Rattle.stop_text.specs.declared.parts.Sector.TheVariants.{Lawful, Faulty}
use Rattle.stop_text.specs.declared.parts.Parts.{Parts}

-- whole lines, none of which ends a task
pub record AreInside (lines : List (List ℕ)) : Type 0 where
  pub clear : All (Avoids 10) lines
  pub others : All (λ line. line ≢ codes "END") lines

-- where a text goes on behind such lines: behind the line `END`, or where no line follows
abbrev pub GoesOn : Bool → List ℕ → ℕ → List ℕ → ℕ → List (List ℕ) → Type 0
GoesOn true before number after next lines = (before ≡ text_of (lines ++ codes "END" ∷ []) ++ after) × (next ≡ number + length lines + 1)
GoesOn false before number after next lines = (before ≡ text_of lines ++ after) × Avoids 10 after

-- the lines up to the first one that ends a task, if there is one
pub record IsPast (ended : Bool) (before : List ℕ) (number : ℕ) (after : List ℕ) (next : ℕ) : Type 0 where
  pub lines : List (List ℕ)
  pub inside : AreInside lines
  pub goes_on : GoesOn ended before number after next lines

-- the text of the next task: up to its line `END`, or all of the text where no such line comes
pub data IsSlice (before : List ℕ) (number : ℕ) (slice after : List ℕ) (next : ℕ) : Type 0 where
  ended : (lines : List (List ℕ)) → AreInside lines → slice ≡ text_of (lines ++ codes "END" ∷ []) → before ≡ slice ++ after
      → next ≡ number + length lines + 1 → IsSlice before number slice after next
  open_ended : (lines : List (List ℕ)) (rest : List ℕ) → AreInside lines → Avoids 10 rest → slice ≡ text_of lines ++ rest → slice ≡ before
      → IsSlice before number slice after next

-- what is said of a text that begins at the line with this number, by the fault that it has as a text of its own
abbrev pub told : ℕ → TextFault → Result Sector LineFault
told number (text.Line n) = Err (line.Line (number + (n - 1)))
told number text.NoEnd = Err line.NoEnd
told number (text.Hold fault) = Ok (Faulty (text.Hold fault))
told number (text.Task fault) = Ok (Faulty (text.Task fault))
told number text.NoMemory = Err line.NoMemory

-- the task that is spelled, or its fault
abbrev pub IsSectorOf : Problem → Sector → Type 0
IsSectorOf t (Lawful task) = (task ≡ t) × IsLawful t
IsSectorOf t (Faulty fault) = IsFaultOf t fault

abbrev pub IsThirdOf : Option Problem → Option Sector → Type 0
IsThirdOf None None = Unit {0}
IsThirdOf None (Some sector) = ⊥
IsThirdOf (Some t) None = ⊥
IsThirdOf (Some t) (Some sector) = IsSectorOf t sector

-- the third task is not lawful
abbrev pub IsThirdFault : Option Problem → StopTextFault → Type 0
IsThirdFault None fault = ⊥
IsThirdFault (Some t) fault = (own : TextFault) × (fault ≡ stop.Task 3 own) × IsFaultOf t own

-- the lines between two points spell a task, and this is what is read of it
pub record IsTaskBetween (before : List ℕ) (number : ℕ) (after : List ℕ) (next : ℕ) (sector : Sector) : Type 0 where
  pub task : Problem
  pub spelled : IsSpelled task
  pub is : IsSectorOf task sector
  pub read : before ≡ text_of (task_lines task) ++ after
  pub counted : next ≡ number + length (task_lines task)

-- The text does not go on with the lines of a task: those up to the end of one, with which no task ends before that,
-- are none; and where the text stops early, no line ends a task.
pub record HasNoTask (before : List ℕ) (number : ℕ) (fault : LineFault) : Type 0 where
  pub slice : List ℕ
  pub after : List ℕ
  pub are : before ≡ slice ++ after
  pub fails : Fails AreTask slice number fault
  pub alone : (t : Problem) (rest : List ℕ) → IsSpelled t → slice ≡ text_of (task_lines t) ++ rest → rest ≡ []
  pub whole : fault ≡ line.NoEnd → after ≡ []

-- this is what is read of the file
pub record ArePartsOf (file : StopFile) (parts : Parts) : Type 0 where
  pub leaves : parts.leaves.items ≡ file.leaves
  pub behind : parts.behind.items ≡ file.behind
  pub first : IsSectorOf file.first parts.first
  pub second : IsSectorOf file.second parts.second
  pub third : IsThirdOf file.third parts.third

-- the text is that of a task, or empty, and this is what is read of it
pub record IsLastTask (before : List ℕ) (sector : Option Sector) : Type 0 where
  pub task : Option Problem
  pub spelled : IfSome task IsSpelled
  pub is : IsThirdOf task sector
  pub read : before ≡ text_of (third_lines task)

-- these are the tasks, each of them lawful
pub record AreTasksOf (a b : Problem) (c : Option Problem) (tasks : Tasks) : Type 0 where
  pub first : tasks.first ≡ a
  pub second : tasks.second ≡ b
  pub third : tasks.third ≡ c
  pub lawful : All IsLawful (a ∷ b ∷ third_sector c)

-- the fault is that of the first task that is not lawful
pub record IsTaskFault (sectors : List Problem) (fault : StopTextFault) : Type 0 where
  pub number : ℕ
  pub own : TextFault
  pub is : fault ≡ stop.Task number own
  pub first : IsFirstFault sectors number own

-- the load of these tasks that the lines say
abbrev pub load_with : Tasks → List Leave → List (List ℕ × List ℕ) → Stops
load_with tasks leaves behind =
    stops_of (tasks.first ∷ tasks.second ∷ third_sector tasks.third) (leaves_of tasks.first.items leaves) (map (places_named tasks.first.hold.positions) behind)

-- the fault is the first one of the load, or memory ran out
abbrev pub IsFaultOfLoad : Stops → StopTextFault → Type 0
IsFaultOfLoad load (stop.Line n) = ⊥
IsFaultOfLoad load stop.NoEnd = ⊥
IsFaultOfLoad load (stop.Task number own) = ⊥
IsFaultOfLoad load (stop.Stop own) = IsStopFault load own
IsFaultOfLoad load stop.NoMemory = Unit {0}
