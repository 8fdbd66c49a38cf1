-- placements over several sectors: which can be unloaded at each stop, which keep the limits of each sector, and the
-- best of them
--
-- A prefix is one of the first sector's task: a position number for each of its first containers in branch order.
use Rattle.std.specs.Prelude.{◌≡◌, ℕ, ◌+◌, ◌≤◌, List, length, All, slice_get, slice_index_or, Some, IsSomeAnd}
use Rattle.hold_limits.specs.Placement.{IsAdmissible, IsAtMost, IsSound, key}
use Rattle.hold_limits.specs.Problem.{Problem}
use Rattle.hold_reach.specs.Reach.{Meets, MeetsLateral, wide_reach, lateral_reach, wide_bound}
use Rattle.stop_tasks.specs.Stops.{Stops, staying, leaves_in_order}

-- the last sectors of the first task's containers, in branch order
abbrev pub last_sectors : Stops → Problem → List ℕ
last_sectors t first = leaves_in_order first.items t.leaves

-- the positions of the containers that are aboard on the sector with this number, in its branch order: they go on being
-- in the order of the first task
abbrev pub part_of : List ℕ → ℕ → List ℕ → List ℕ
part_of last number prefix = staying prefix last number

-- where both positions of the pair are used, the container on the first one leaves no later than the one on the second,
-- which is behind it
abbrev pub KeepsWayOut : List ℕ → List ℕ → ℕ × ℕ → Type 0
KeepsWayOut last prefix pair = (i j : ℕ) → slice_get prefix i ≡ Some pair.0 → slice_get prefix j ≡ Some pair.1 → slice_index_or last i 0 ≤ slice_index_or last j 0

-- this is so of each pair
abbrev pub IsReachable : List ℕ → List (ℕ × ℕ) → List ℕ → Type 0
IsReachable last behind prefix = All (KeepsWayOut last prefix) behind

-- P holds of each sector's task and the prefix's part for it, where the containers have these last sectors
abbrev pub OnSectors : (Problem → List ℕ → Type 0) → List Problem → List ℕ → List ℕ → Type 0
OnSectors P sectors last prefix = (place : ℕ) (sector : Problem) → slice_get sectors place ≡ Some sector → P sector (part_of last (place + 1) prefix)

abbrev pub OnEachSector : (Problem → List ℕ → Type 0) → Stops → Problem → List ℕ → Type 0
OnEachSector P t first prefix = OnSectors P t.sectors (last_sectors t first) prefix

-- the first sector's task
abbrev pub IsFirstSector : Stops → Problem → Type 0
IsFirstSector t first = slice_get t.sectors 0 ≡ Some first

-- a path that can be unloaded at each stop, and whose part is admissible on each sector
pub record IsStopAdmissible (t : Stops) (path : List ℕ) : Type 0 where
  pub first : Problem
  pub is_first : IsFirstSector t first
  pub complete : length path ≡ length first.items
  pub reachable : IsReachable (last_sectors t first) t.behind path
  pub sectors : OnEachSector IsAdmissible t first path

-- such a path, and no such path has a smaller key, which is that of the first sector's task
pub record IsStopBest (t : Stops) (path : List ℕ) : Type 0 where
  pub admissible : IsStopAdmissible t path
  pub least : (first : Problem) (other : List ℕ) → IsFirstSector t first → IsStopAdmissible t other → IsAtMost (key first path) (key first other)

-- a sound part from which the sector's window and its lateral limit can be met. Twins may leave on different sectors,
-- so that they need not rise
pub record IsWidelyViable (sector : Problem) (part : List ℕ) : Type 0 where
  pub sound : IsSound sector part
  pub window : Meets sector.low sector.high (wide_reach sector part)
  pub lateral : MeetsLateral sector.hold (lateral_reach sector part)

-- a prefix that can be unloaded at each stop, and whose part is so viable on each sector
pub record IsStopViable (t : Stops) (prefix : List ℕ) : Type 0 where
  pub first : Problem
  pub is_first : IsFirstSector t first
  pub short : length prefix ≤ length first.items
  pub reachable : IsReachable (last_sectors t first) t.behind prefix
  pub sectors : OnEachSector IsWidelyViable t first prefix

-- such a prefix whose wide bound in the first sector, with its numbers, is at most the key of the best path. Where no
-- path is admissible, every such prefix is near
pub record IsStopNear (t : Stops) (prefix : List ℕ) : Type 0 where
  pub viable : IsStopViable t prefix
  pub promising : (first : Problem) (best : List ℕ) → IsFirstSector t first → IsStopBest t best
      → IsSomeAnd (wide_bound first prefix) (λ b. IsAtMost (b, prefix) (key first best))
