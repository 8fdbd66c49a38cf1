-- which tasks a partial placement over several sectors places on
use Rattle.std.specs.Prelude.{◌≡◌, ℕ, List, Option, Some, slice_get}
use Rattle.hold_limits.specs.Problem.{Problem}
use Rattle.stop_tasks.specs.Stops.{Stops}
use Rattle.stop_tasks.specs.StopFaults.{AreLawfulStops}
use Rattle.stop_tasks.specs.StopPaths.{IsFirstSector, last_sectors}

-- the tasks are those of the lawful load's sectors, and the numbers are the last sectors of its containers, in branch
-- order
pub record AreSectors (t : Stops) (numbers : List ℕ) (first second : Problem) (third : Option Problem) : Type 0 where
  pub lawful : AreLawfulStops t
  pub last : numbers ≡ last_sectors t first
  pub is_first : IsFirstSector t first
  pub is_second : slice_get t.sectors 1 ≡ Some second
  pub is_third : slice_get t.sectors 2 ≡ third
