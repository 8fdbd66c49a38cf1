use Rattle.std.proofs.Common.{◌≡◌, ℕ, ◌+◌, List, [], ◌∷◌, ◌++◌, map, take, Some, sym, ap, ap₂, ◌∙◌, subst, arith}
use Rattle.std.proofs.lemmas.List.{take_all}
use Rattle.std.proofs.lemmas.Option.{slice_get-get_or}
use Rattle.std.specs.Prelude.{All, slice_get}
use Rattle.price_trees.specs.Prices.{Choice}
use Rattle.price_trees.specs.Narrowing.{fixed}
use Rattle.tree_certificate.specs.Listed.{listed_sibling}
use Rattle.tree_checker.specs.GoodTrees.{Tree, TreeHolds, sibling_tree, begun}
use Rattle.tree_checker.specs.Steps.{prices_listed, TreeIsRefused}
use Rattle.tree_checker.proofs.FirstPlaces.{All-more}
use Rattle.tree_checker.proofs.TreeSteps.{tree-fails-at, sibling-tree-is, sibling-at, length-trees}
use Rattle.tree_checker.proofs.trees.check_sibling_trees.Goals as goal

pub returns-in-Err-clause-fails : goal.returns-in-Err-clause-fails
returns-in-Err-clause-fails c =
    let t = c.args.evidence.now.task.now in
    let prices = prices_listed c.args.evidence.now in
    let path = c.args.claimed.now.path.now.items in
    let siblings = c.args.siblings.now in
    let at = c.loop-at.at in
    let s = c.index-siblings-at.result in
    let there : slice_get siblings at ≡ Some s = slice_get-get_or siblings at s (omega (arith, c.loop-at-test.true)) ∙ ap (λ x. Some x) (sym c.index-siblings-at.is) in
    let choice : c.begun-choice.result ≡ begun t path (s.rank, s.position) = c.begun-choice.ensures
    ∙ ap₂ (λ (xs : List ℕ) (whole : Choice). fixed xs whole) (ap (λ xs. xs ++ s.position ∷ []) (ap₂ (λ n xs. take n xs) c.from.ensures c.as_slice.ensures.value)) c.requires.full in
    let tree = sibling-tree-is t path c.span_within-ticks.result c.args.claimed.now.distance c.begun-choice.result c.as_slice-operations.result.now s c.span_within-ticks.ensures c.requires.measured.0 choice c.as_slice-operations.ensures.value in
    tree-fails-at t prices (map (sibling_tree t path) (map listed_sibling siblings)) at 1 (at + 1) (sibling_tree t path (listed_sibling s)) c.in-Err.rejection
    c.loop-at.invariant (sibling-at t path siblings at s there) (omega arith)
    (subst (λ x. TreeIsRefused t prices x (at + 1) c.in-Err.rejection) tree c.in-Err.ensures.fails)

pub loop-at-preserved : goal.loop-at-preserved
loop-at-preserved c =
    let t = c.args.evidence.now.task.now in
    let prices = prices_listed c.args.evidence.now in
    let path = c.args.claimed.now.path.now.items in
    let siblings = c.args.siblings.now in
    let at = c.loop-at.at in
    let s = c.index-siblings-at.result in
    let there : slice_get siblings at ≡ Some s = slice_get-get_or siblings at s (omega (arith, c.loop-at-test.true)) ∙ ap (λ x. Some x) (sym c.index-siblings-at.is) in
    let choice : c.begun-choice.result ≡ begun t path (s.rank, s.position) = c.begun-choice.ensures
    ∙ ap₂ (λ (xs : List ℕ) (whole : Choice). fixed xs whole) (ap (λ xs. xs ++ s.position ∷ []) (ap₂ (λ n xs. take n xs) c.from.ensures c.as_slice.ensures.value)) c.requires.full in
    let tree = sibling-tree-is t path c.span_within-ticks.result c.args.claimed.now.distance c.begun-choice.result c.as_slice-operations.result.now s c.span_within-ticks.ensures c.requires.measured.0 choice c.as_slice-operations.ensures.value in
    All-more Tree (TreeHolds t prices) (map (sibling_tree t path) (map listed_sibling siblings)) at (sibling_tree t path (listed_sibling s)) (sibling-at t path siblings at s there)
    c.loop-at.invariant (subst (TreeHolds t prices) tree c.in_default.ensures.holds)

pub returns-clause-hold : goal.returns-clause-hold
returns-clause-hold c =
    let t = c.args.evidence.now.task.now in
    let path = c.args.claimed.now.path.now.items in
    let siblings = c.args.siblings.now in
    let trees = map (sibling_tree t path) (map listed_sibling siblings) in
    subst (All (TreeHolds t (prices_listed c.args.evidence.now))) (take_all c.loop-at.at trees (omega (arith, c.loop-at-test.false, length-trees t path siblings))) c.loop-at.invariant
