use Rattle.std.proofs.Common.{◌+◌, ◌++◌, length}
use Rattle.std.specs.Prelude.{slice_index}
use Rattle.position_set.specs.Sets.{members}
use Rattle.tree_checker.specs.GoodTrees.{smaller_at}
use Rattle.tree_checker.specs.Steps.{places, neighbours_from, LeadsTo}
use Rattle.tree_checker.proofs.siblings.check_rank.Given as goal

abbrev pub invariant-loop-position : goal.invariant-loop-position
invariant-loop-position l =
    LeadsTo l.evidence.task.now l.path (places l.siblings) (neighbours_from l.evidence.task.now l.path l.rank) l.start
    (smaller_at l.rank (slice_index l.path l.rank) (members l.rest) ++ neighbours_from l.evidence.task.now l.path (l.rank + 1)) l.next

abbrev pub decreases-loop-position : goal.decreases-loop-position
decreases-loop-position l = length (members l.rest)
