use Rattle.std.proofs.Common.{◌-◌, length, take}
use Rattle.std.specs.List.{AllZip}
use Rattle.hold_reach.specs.Reach.{is_open, remaining}
use Rattle.position_set.specs.Sets.{Stands}
use Rattle.hold_partial.proofs.openness.open_sets.Given as goal

abbrev pub invariant-loop-rank : goal.invariant-loop-rank
invariant-loop-rank l =
    AllZip (λ item set. Stands set (is_open l.board.task.now l.board.prefix.items item)) (take (l.rank - length l.board.prefix.items) (remaining l.board.task.now l.board.prefix.items)) l.sets.items
