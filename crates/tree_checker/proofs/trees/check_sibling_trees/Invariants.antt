use Rattle.std.proofs.Common.{map, take}
use Rattle.std.specs.Prelude.{All}
use Rattle.tree_certificate.specs.Listed.{listed_sibling}
use Rattle.tree_checker.specs.GoodTrees.{TreeHolds, sibling_tree}
use Rattle.tree_checker.specs.Steps.{prices_listed}
use Rattle.tree_checker.proofs.trees.check_sibling_trees.Given as goal

abbrev pub invariant-loop-at : goal.invariant-loop-at
invariant-loop-at l =
    All (TreeHolds l.evidence.task.now (prices_listed l.evidence))
    (take l.at (map (sibling_tree l.evidence.task.now l.claimed.path.now.items) (map listed_sibling l.siblings)))
