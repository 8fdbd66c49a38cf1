use Rattle.price_trees.proofs.NarrowingLemmas.{among-cut}
use Rattle.price_trees.proofs.TreeLaw.{among-left_by_others, among-trimmed, tree-law}
use Rattle.price_trees.proofs.BestPath.{full-among, none-admissible, shown-is-best}
use Rattle.price_trees.proofs.laws.tree_laws.Goals as goal

pub returns : goal.returns
returns c = record {
  narrowed = among-left_by_others;
  trimmed = among-trimmed;
  halved = λ test i choice path. among-cut test i path choice;
  full = full-among;
  refuted = tree-law;
  best = shown-is-best;
  none = none-admissible;
}
