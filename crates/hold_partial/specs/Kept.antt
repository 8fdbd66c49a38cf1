-- what a partial placement keeps, and what it stands for
use Rattle.std.specs.Prelude.{◌≡◌, ℕ, ◌<◌, ◌≤◌, ℤ, List, length, take, slice_get, slice_index_or, Some, pos}
use Rattle.hold_parts.specs.declared.parts.Item.{Item}
use Rattle.hold_limits.specs.Layout.{Layout}
use Rattle.hold_limits.specs.Problem.{Problem}
use Rattle.hold_limits.specs.Faults.{IsLawful}
use Rattle.hold_limits.specs.Placement.{IsSound}
use Rattle.hold_limits.specs.BranchOrder.{ordered}
use Rattle.arrayvec.specs.ArrayVec.{ArrayVec}
use Rattle.hold_reach.specs.declared.extent.Extent.{Extent}
use Rattle.hold_reach.specs.declared.extent.Extent.TheVariants.{Reach, WideReach, LateralReach}
use Rattle.hold_reach.specs.Reach.{falls}
use Rattle.hold_partial.specs.declared.board.Board.{Board}
use Rattle.hold_partial.specs.declared.closed.Closed.{Closed}
use Rattle.hold_partial.specs.declared.level.Level.{Level}
use Rattle.position_set.specs.declared.set.PositionSet.{PositionSet}
use Rattle.hold_partial.specs.declared.tables.Tables.{Tables}
use Rattle.hold_partial.specs.Arrangement.{Ranked, IsByInfluence, at_rank}
use Rattle.hold_partial.specs.Levels.{IsLevel}
use Rattle.hold_partial.specs.Limits.{limits_on, AreLoads, AreAllowed}
use Rattle.position_set.specs.Sets.{Stands}
use Rattle.hold_limits.specs.Twins.{first_twin}
use Rattle.hold_partial.specs.Tables.{AreDemands, IsPositionTable, IsSides, side_in}

-- the limits that speak of each position
pub record AreLimitLists (hold : Layout) (lists : List (ArrayVec ℕ)) : Type 0 where
  pub count : length lists ≡ length hold.positions
  pub each : (q : ℕ) (d : ArrayVec ℕ) → q < length hold.positions → (slice_index_or lists q d).items ≡ limits_on hold q

-- what is looked up of a task
pub record AreTables (t : Problem) (tables : Tables) : Type 0 where
  pub ranks : IsByInfluence t.hold tables.ranks.items
  pub demands : AreDemands t tables.ranks.items tables.demands.items
  pub positions : IsPositionTable t.hold tables.ranks.items tables.positions.items
  pub sides : IsSides t.hold tables.ranks.items tables.sides
  pub limits : AreLimitLists t.hold tables.limits.items
  pub allowed : AreAllowed t.hold tables.allowed

-- the tables are those of some task
abbrev pub ArePrepared : Tables → Type 0
ArePrepared tables = (t : Problem) × AreTables t tables

-- by how much one kilogram moves the hold index, or the lateral difference, on the position of a rank
abbrev pub factor_of : Extent → Tables → ℕ → ℤ
factor_of Reach tables r = (slice_index_or tables.ranks.items r (pos 0, 0)).0
factor_of WideReach tables r = (slice_index_or tables.ranks.items r (pos 0, 0)).0
factor_of LateralReach tables r = side_in tables.sides r

-- the ranks that the prefix closes to each class of twins, and what each placed container closed to
pub record AreClosed (t : Problem) (ranks : List Ranked) (prefix : List ℕ) (closed : Closed) : Type 0 where
  pub to : (k : ℕ) (d : PositionSet) (item : Item) → slice_get (ordered t.items) k ≡ Some item
      → Stands (slice_index_or closed.to (first_twin t item) d) (at_rank (falls t prefix item) ranks)
  pub before : (k : ℕ) (d : PositionSet) (item : Item) → k < length prefix → slice_get (ordered t.items) k ≡ Some item
      → Stands (slice_index_or closed.before k d) (at_rank (falls t (take k prefix) item) ranks)

-- a lawful task with its tables, a sound prefix with a level for each of its fronts, the loads of the limits, and what is closed to twins
pub record IsKept (board : Board) : Type 0 where
  pub lawful : IsLawful board.task.now
  pub sound : IsSound board.task.now board.prefix.items
  pub prepared : AreTables board.task.now board.tables
  pub fronts : (k : ℕ) (d : Level) → k ≤ length board.prefix.items
      → IsLevel board.task.now board.tables.ranks.items (take k board.prefix.items) (slice_index_or board.levels k d)
  pub loaded : AreLoads board.task.now board.prefix.items board.loads
  pub closed : AreClosed board.task.now board.tables.ranks.items board.prefix.items board.closed
