use Rattle.std.proofs.Common.{◌+◌, ◌-◌, [], ◌∷◌, ◌++◌, length}
use Rattle.hold_reach.proofs.ReachLemmas.{IsSummed}
use Rattle.hold_partial.proofs.board.Board.span_after.Given as goal

abbrev pub invariant-loop-item : goal.invariant-loop-item
invariant-loop-item l = IsSummed l.extent l.self.task.now (l.self.prefix.items ++ l.position ∷ []) l.item (l.item - (length l.self.prefix.items + 1)) l.span
