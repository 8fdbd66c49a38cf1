use Rattle.tree_checker.specs.Steps.{places, neighbours_from, LeadsTo}
use Rattle.tree_checker.proofs.siblings.check_siblings.Given as goal

abbrev pub invariant-loop-rank : goal.invariant-loop-rank
invariant-loop-rank l =
    LeadsTo l.evidence.task.now l.path (places l.siblings) (neighbours_from l.evidence.task.now l.path 0) 0
    (neighbours_from l.evidence.task.now l.path l.rank) l.next
