use Rattle.std.proofs.Common.{map, Option, None, refl, sym, ap, ◌∙◌, subst}
use Rattle.std.proofs.lemmas.Result.{IfErr-weaker}
use Rattle.std.proofs.lemmas.List.Elements.{All-nil}
use Rattle.hold_limits.specs.Placement.{distance}
use Rattle.price_trees.specs.Narrowing.{window, full}
use Rattle.tree_certificate.specs.Listed.{listed_sibling}
use Rattle.tree_checker.specs.GoodTrees.{TreeHolds, nearer_ticks, sibling_tree, trees_for}
use Rattle.tree_checker.specs.Steps.{prices_listed, path_of, IsMeasured, tree_of, TreeIsRefused, TreesAreRefused}
use Rattle.tree_checker.specs.declared.claim.Claimed.{Claimed}
use Rattle.tree_checker.proofs.TreeSteps.{tree-fails-at, later-fails, root-tree-is}
use Rattle.tree_checker.proofs.trees.check_all_trees.Goals as goal

pub returns-in_ok-check_tree-in-Some-clause-fails :
    goal.returns-in_ok-check_tree-in-Some-clause-fails
returns-in_ok-check_tree-in-Some-clause-fails c =
    let t = c.args.evidence.now.task.now in
    let prices = prices_listed c.args.evidence.now in
    let found = c.in-Some.claimed in
    let path = found.path.now.items in
    let root = c.args.root.now in
    let siblings = map listed_sibling c.args.siblings.now in
    let measured = subst (IsMeasured t) c.in-Some.is c.requires.measured in
    let tree = root-tree-is c.nearer_span-ticks.result c.copy.result root (nearer_ticks t (distance t path)) (full t) (c.nearer_span-ticks.ensures ∙ ap (nearer_ticks t) measured.0) (c.copy.ensures ∙ c.requires.full) in
    let others = map (sibling_tree t path) siblings in
    IfErr-weaker c.check_sibling_trees.result (TreesAreRefused t prices others 1) (TreesAreRefused t prices (trees_for t (path_of c.args.claimed.now) root siblings) 0)
    (λ rejection fails. subst (λ (claimed : Option Claimed). TreesAreRefused t prices (trees_for t (path_of claimed) root siblings) 0 rejection) (sym c.in-Some.is)
    (later-fails t prices _ others rejection (subst (TreeHolds t prices) tree c.in_ok-check_tree-in-Some.ensures.holds) fails))
    c.check_sibling_trees.ensures.fails

pub returns-in-None-clause-fails : goal.returns-in-None-clause-fails
returns-in-None-clause-fails c =
    let t = c.args.evidence.now.task.now in
    let prices = prices_listed c.args.evidence.now in
    let root = c.args.root.now in
    let siblings = map listed_sibling c.args.siblings.now in
    let tree = root-tree-is c.window_span-ticks.result c.copy-in-None.result root (window t) (full t) c.window_span-ticks.ensures (c.copy-in-None.ensures ∙ c.requires.full) in
    IfErr-weaker c.check_tree-in-None.result (TreeIsRefused t prices (tree_of c.window_span-ticks.result c.copy-in-None.result root) 0) (TreesAreRefused t prices (trees_for t (path_of c.args.claimed.now) root siblings) 0)
    (λ rejection fails. subst (λ (claimed : Option Claimed). TreesAreRefused t prices (trees_for t (path_of claimed) root siblings) 0 rejection) (sym c.in-None.is)
    (tree-fails-at t prices (trees_for t None root siblings) 0 0 0 _ rejection (All-nil (TreeHolds t prices)) refl refl (subst (λ x. TreeIsRefused t prices x 0 rejection) tree fails)))
    c.check_tree-in-None.ensures.fails
