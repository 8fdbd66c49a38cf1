use Rattle.std.proofs.Common.{◌≡◌, ◌+◌, ◌-◌, length, Some}
use Rattle.std.specs.Prelude.{slice_get}
use Rattle.hold_parts.specs.declared.parts.Item.{Item}
use Rattle.hold_limits.specs.BranchOrder.{ordered}
use Rattle.hold_partial.proofs.AheadLemmas.{IsLooked}
use Rattle.hold_partial.proofs.board.Board.ahead.Given as goal

abbrev pub invariant-loop-item : goal.invariant-loop-item
invariant-loop-item l = (item : Item) → slice_get (ordered l.self.task.now.items) (length l.self.prefix.items) ≡ Some item
    → IsLooked l.self.task.now l.self.prefix.items item l.item (l.item - (length l.self.prefix.items + 1)) l.ahead.ends l.ahead.twins l.ahead.reach
