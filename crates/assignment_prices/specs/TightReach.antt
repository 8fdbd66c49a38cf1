-- the tight reach: how far the hold index can still reach where the containers that are left get positions of their own
use Rattle.std.specs.Prelude.{◌≡◌, ℕ, ℤ, ◌+ℤ◌, List, Option}
use Rattle.assignment.specs.Ways.{IsWay, cost_of}
use Rattle.hold_limits.specs.Problem.{Problem}
use Rattle.hold_limits.specs.Placement.{placed_moment, hold_index}
use Rattle.hold_reach.specs.Reach.{remaining, IsOpen}
use Rattle.hold_reach.specs.Choices.{Spans}

-- a position for each container that the prefix leaves, which is open for it; no two of them the same
abbrev pub IsWayFrom : Problem → List ℕ → List ℕ → Type 0
IsWayFrom t prefix = IsWay (IsOpen t prefix) (remaining t prefix)

-- mass times influence of the containers that the prefix leaves, on these positions
abbrev pub moment_of_way : Problem → List ℕ → List ℕ → ℤ
moment_of_way t prefix way = cost_of (placed_moment t.hold) (remaining t prefix) way

-- the remaining containers can give this hold index on open positions of their own
abbrev pub AllowsTightly : Problem → List ℕ → ℤ → Type 0
AllowsTightly t prefix index = (way : List ℕ) × IsWayFrom t prefix way × (index ≡ hold_index t prefix +ℤ moment_of_way t prefix way)

-- the tight reach goes from the least to the greatest of these hold indices, and there is none where there is no way
abbrev pub IsTightReach : Problem → List ℕ → Option (ℤ × ℤ) → Type 0
IsTightReach t prefix reached = Spans reached (AllowsTightly t prefix)
