-- a load over several sectors as a best-first search sees it
use Rattle.std.specs.Prelude.{◌≡◌, ℕ, ◌≤◌, ◌≤ℤ◌, List, length, slice_get, Some}
use Rattle.std.specs.Option.{option_map_or}
use Rattle.hold_limits.specs.Problem.{Problem}
use Rattle.hold_limits.specs.Placement.{IsSound, distance}
use Rattle.hold_reach.specs.Reach.{wide_bound}
use Rattle.path_search.specs.Worlds.{World}
use Rattle.stop_tasks.specs.Stops.{Stops}
use Rattle.stop_tasks.specs.StopPaths.{IsFirstSector, IsStopAdmissible, IsStopBest, IsStopViable}

-- what is said of the first sector's task, and 0 where there is no sector
abbrev pub of_first : Stops → (Problem → ℕ) → ℕ
of_first t said = option_map_or said (slice_get t.sectors 0) 0

-- the ends of the first sector's ideal band are in order
abbrev pub HasFirstBand : Stops → Type 0
HasFirstBand t = (first : Problem) → IsFirstSector t first → first.ideal_low ≤ℤ first.ideal_high

-- a sound prefix of the first sector's task: what a search takes for worth a look, since it is told at little cost. Whether
-- the prefix can be unloaded at each stop, and what it is on the other sectors, shows only at the look
abbrev pub IsSoundAtStart : Stops → List ℕ → Type 0
IsSoundAtStart t prefix = (first : Problem) → IsFirstSector t first → IsSound first prefix

-- a prefix from which each sector's limits can be met, with its wide bound on the first sector
pub record HasStopBound (t : Stops) (prefix : List ℕ) (ticks : ℕ) : Type 0 where
  pub viable : IsStopViable t prefix
  pub bound : (first : Problem) → IsFirstSector t first → wide_bound first prefix ≡ Some ticks

-- a prefix that is sound at the start, with no more ticks than its bound, if it has one
pub record MayWaitAtStops (t : Stops) (prefix : List ℕ) (waited : ℕ) : Type 0 where
  pub sound : IsSoundAtStart t prefix
  pub below : (ticks : ℕ) → HasStopBound t prefix ticks → waited ≤ ticks

-- the prefixes and the paths of a load over several sectors: prefixes are those of the first sector's task, which loads
-- every container, and paths are compared by their distance there
abbrev pub stop_world : Stops → World
stop_world t = record {
  count = of_first t (λ first. length first.items);
  positions = of_first t (λ first. length first.hold.positions);
  IsViable = IsSoundAtStart t;
  IsAdmissible = IsStopAdmissible t;
  IsBest = IsStopBest t;
  distance = λ path. of_first t (λ first. distance first path);
  HasBound = HasStopBound t;
}
