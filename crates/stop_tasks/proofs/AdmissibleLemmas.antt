-- what it is for a path to be admissible on each sector, said of a first sector that is at hand
use Rattle.std.proofs.Common.{◌≡◌, ℕ, List, length, subst}
use Rattle.hold_limits.specs.Problem.{Problem}
use Rattle.hold_limits.specs.Placement.{IsAdmissible}
use Rattle.stop_tasks.specs.Stops.{Stops}
use Rattle.stop_tasks.specs.StopPaths.{IsFirstSector, IsReachable, IsStopAdmissible, OnSectors, last_sectors}

pub one-first : (t : Stops) (first other : Problem) → IsFirstSector t first → IsFirstSector t other → first ≡ other
one-first t first other is_first is_other = cc

-- the parts of the definition, for this first sector
abbrev pub HasParts : Stops → List ℕ → Problem → Type 0
HasParts t path first = (length path ≡ length first.items) × IsReachable (last_sectors t first) t.behind path × OnSectors IsAdmissible t.sectors (last_sectors t first) path

pub stop-admissible-parts : (t : Stops) (first : Problem) (path : List ℕ) → IsFirstSector t first → IsStopAdmissible t path → HasParts t path first
stop-admissible-parts t first path is_first a =
    subst (HasParts t path) (one-first t a.first first a.is_first is_first) (a.complete, a.reachable, a.sectors)
