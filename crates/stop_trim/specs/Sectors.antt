-- a load over several sectors, from the figures of a flight on each of them
--
-- One aircraft flies all sectors. Its figures stand in the order in which the sectors are flown, and those of the first
-- one have every container.
use Rattle.std.specs.Prelude.{◌≡◌, ℕ, ◌+◌, List, length, slice_get, Some}
use Rattle.hold_limits.specs.Problem.{Problem}
use Rattle.aircraft_file.specs.Craft.{Craft}
use Rattle.trim.specs.declared.figures.Figures.{Figures}
use Rattle.trim.specs.Points.{IsFlightAdmissible}
use Rattle.trim.specs.Refusals.{IsTaskOf}
use Rattle.stop_tasks.specs.Stops.{Stops, leaves_in_order}
use Rattle.stop_tasks.specs.StopPaths.{IsReachable, part_of}

-- The load --------------------------------------------------------------------------------------

-- a task at the place of a sector's figures is the task of these figures
abbrev pub AreTasksAt : Craft → List Figures → List Problem → Type 0
AreTasksAt a sectors tasks = (place : ℕ) (f : Figures) (t : Problem) → slice_get sectors place ≡ Some f → slice_get tasks place ≡ Some t → IsTaskOf a f t

-- the tasks of the sectors: one for each, and each is that of the sector's figures
pub record AreTasksOf (a : Craft) (sectors : List Figures) (tasks : List Problem) : Type 0 where
  pub one_each : length tasks ≡ length sectors
  pub each : AreTasksAt a sectors tasks

-- the load with the tasks of the sectors, with these last sectors and these pairs
pub record IsLoadOf (a : Craft) (sectors : List Figures) (leaves : List ℕ) (behind : List (ℕ × ℕ)) (t : Stops) : Type 0 where
  pub tasks : AreTasksOf a sectors t.sectors
  pub leaving : t.leaves ≡ leaves
  pub pairs : t.behind ≡ behind

-- Its paths -------------------------------------------------------------------------------------

-- on each sector the path's part is admissible for the flight, where the containers have these last sectors
abbrev pub IsFlyableOnEach : Craft → List Figures → List ℕ → List ℕ → Type 0
IsFlyableOnEach a sectors last path = (place : ℕ) (f : Figures) → slice_get sectors place ≡ Some f → IsFlightAdmissible a f (part_of last (place + 1) path)

-- a path that has a number for each container of the first sector, can be unloaded at each stop, and is flyable on each
-- sector
pub record IsStopFlyable (a : Craft) (sectors : List Figures) (leaves : List ℕ) (behind : List (ℕ × ℕ)) (path : List ℕ) : Type 0 where
  pub first : Figures
  pub is_first : slice_get sectors 0 ≡ Some first
  pub complete : length path ≡ length first.containers
  pub reachable : IsReachable (leaves_in_order first.containers leaves) behind path
  pub flyable : IsFlyableOnEach a sectors (leaves_in_order first.containers leaves) path
