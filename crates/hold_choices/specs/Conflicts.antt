-- what containers take from one another, ready to look up
use Rattle.std.specs.Prelude.{◌≡◌, ℕ, ◌<◌, ◌||◌, ◌==◌, nat_le, map, slice_index_or}
use Rattle.hold_limits.specs.Problem.{Problem}
use Rattle.hold_limits.specs.BranchOrder.{ordered}
use Rattle.hold_limits.specs.Twins.{first_twin}
use Rattle.hold_limits.specs.Enumeration.{exclude}
use Rattle.position_set.specs.declared.set.PositionSet.{PositionSet}
use Rattle.position_set.specs.Sets.{has}
use Rattle.hold_choices.specs.declared.conflicts.Conflicts.{Conflicts}

-- a position takes itself and those that it excludes from other containers, and a container's class is the rank of its first twin
pub record AreConflicts (t : Problem) (c : Conflicts) : Type 0 where
  pub taken : (q p : ℕ) (d : PositionSet) → q < 64 → p < 64 → has (slice_index_or c.taken q d) p ≡ ((q == p) || exclude t.hold q p)
  pub up_to : (q p : ℕ) (d : PositionSet) → q < 64 → p < 64 → has (slice_index_or c.up_to q d) p ≡ nat_le p q
  pub classes : c.classes.items ≡ map (first_twin t) (ordered t.items)
