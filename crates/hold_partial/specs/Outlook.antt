-- what is known of the next container of a board
use Rattle.std.specs.Prelude.{◌≡◌, ◌<◌, Option, Some, IfSome, length, slice_get}
use Rattle.hold_parts.specs.declared.parts.Item.{Item}
use Rattle.hold_limits.specs.BranchOrder.{ordered}
use Rattle.hold_reach.specs.Reach.{is_open}
use Rattle.hold_partial.specs.declared.ahead.Ahead.{Ahead}
use Rattle.hold_partial.specs.declared.board.Board.{Board}
use Rattle.position_set.specs.declared.set.PositionSet.{PositionSet}
use Rattle.hold_partial.specs.Ahead.{IsAhead}
use Rattle.hold_partial.specs.Arrangement.{at_rank}
use Rattle.hold_partial.specs.Kept.{IsKept}
use Rattle.position_set.specs.Sets.{Stands}

-- the board leaves a container, these ranks are those of the positions that are open for it, and this is ahead of it
pub record IsOutlook (board : Board) (ranks : PositionSet) (ahead : Option Ahead) : Type 0 where
  pub kept : IsKept board
  pub short : length board.prefix.items < length board.task.now.items
  pub open_ranks : (item : Item) → slice_get (ordered board.task.now.items) (length board.prefix.items) ≡ Some item
      → Stands ranks (at_rank (is_open board.task.now board.prefix.items item) board.tables.ranks.items)
  pub known : (item : Item) → slice_get (ordered board.task.now.items) (length board.prefix.items) ≡ Some item
      → IfSome ahead (IsAhead board.task.now board.prefix.items item)
