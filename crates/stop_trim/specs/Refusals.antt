-- why the figures of a flight on several sectors make no load over them
use Rattle.std.specs.Prelude.{◌≡◌, ◌≢◌, ℕ, ◌+◌, ◌<◌, List, slice_get, Some}
use Rattle.hold_limits.specs.Problem.{Problem}
use Rattle.aircraft_file.specs.Craft.{Craft}
use Rattle.trim.specs.declared.figures.Figures.{Figures}
use Rattle.trim.specs.declared.fault.TrimFault.{TrimFault}
use Rattle.trim.specs.declared.fault.TrimFault.TheVariants as trim
use Rattle.trim.specs.Refusals.{IsTaskOf, IsRefused}
use Rattle.stop_tasks.specs.declared.fault.StopFault.{StopFault}
use Rattle.stop_tasks.specs.Stops.{stops_of}
use Rattle.stop_tasks.specs.StopFaults.{IsStopFault}
use Rattle.stop_trim.specs.declared.fault.StopTrim.{StopTrim}
use Rattle.stop_trim.specs.declared.fault.StopTrim.TheVariants.{Trim, Stop, NoMemory}
use Rattle.stop_trim.specs.Sectors.{AreTasksOf}

-- the figures make a task
abbrev pub HasTask : Craft → Figures → Type 0
HasTask a f = (t : Problem) × IsTaskOf a f t

-- the figures of each sector before this place make one
abbrev pub HaveTasksBefore : ℕ → Craft → List Figures → Type 0
HaveTasksBefore place a sectors = (earlier : ℕ) (f : Figures) → earlier < place → slice_get sectors earlier ≡ Some f → HasTask a f

-- the figures are refused by this fault, and not since memory ran out
abbrev pub IsFaulty : Craft → Figures → TrimFault → Type 0
IsFaulty a f fault = IsRefused a f fault × (fault ≢ trim.NoMemory)

-- the sector with this number, counted from 1, is the first whose figures are refused, and by this fault
pub record IsFirstFaulty (a : Craft) (sectors : List Figures) (number : ℕ) (fault : TrimFault) : Type 0 where
  pub place : ℕ
  pub number_is : number ≡ place + 1
  pub figures : Figures
  pub figures_are : slice_get sectors place ≡ Some figures
  pub earlier : HaveTasksBefore place a sectors
  pub refused : IsFaulty a figures fault

-- the figures of each sector make a task, and these tasks have this fault as a load
abbrev pub IsFaultOfLoad : Craft → List Figures → List ℕ → List (ℕ × ℕ) → StopFault → Type 0
IsFaultOfLoad a sectors leaves behind fault = (tasks : List Problem) × AreTasksOf a sectors tasks × IsStopFault (stops_of tasks leaves behind) fault

-- why there is no load. Out of memory may come at any time
abbrev pub IsRefusedLoad : Craft → List Figures → List ℕ → List (ℕ × ℕ) → StopTrim → Type 0
IsRefusedLoad a sectors leaves behind (Trim number fault) = IsFirstFaulty a sectors number fault
IsRefusedLoad a sectors leaves behind (Stop fault) = IsFaultOfLoad a sectors leaves behind fault
IsRefusedLoad a sectors leaves behind NoMemory = Unit {0}

-- The tasks alone -------------------------------------------------------------------------------

-- why the figures of the sector with this number make no task
abbrev pub IsSectorFault : Craft → Figures → ℕ → StopTrim → Type 0
IsSectorFault a f number (Trim told fault) = (told ≡ number) × IsFaulty a f fault
IsSectorFault a f number (Stop fault) = ⊥
IsSectorFault a f number NoMemory = Unit {0}

-- why the figures of the sectors do not all make a task
abbrev pub IsTrimFault : Craft → List Figures → StopTrim → Type 0
IsTrimFault a sectors (Trim number fault) = IsFirstFaulty a sectors number fault
IsTrimFault a sectors (Stop fault) = ⊥
IsTrimFault a sectors NoMemory = Unit {0}
