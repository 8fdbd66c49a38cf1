-- where the next container may stand on the first sector
use Rattle.std.specs.Prelude.{ℕ, List}
use Rattle.hold_limits.specs.Problem.{Problem}
use Rattle.stop_tasks.specs.Stops.{Stops}
use Rattle.stop_tasks.specs.StopPaths.{IsFirstSector}
use Rattle.stop_partial.specs.Next.{AreNext}
use Rattle.stop_partial.specs.declared.next.NextPositions.{NextPositions}

-- this is what is said of the next container after the prefix on the first sector
abbrev pub AreNextAtStart : Stops → List ℕ → NextPositions → Type 0
AreNextAtStart t prefix next = (first : Problem) → IsFirstSector t first → AreNext first prefix next
