-- the steps of a test of trees, one after another
use Rattle.std.proofs.Common.{◌≡◌, ⊎_elim, inl, inr, ℕ, suc, ◌+◌, List, ◌∷◌, length, map, take, Some, ap, ap₂, ◌∙◌, arith}
use Rattle.std.proofs.lemmas.List.Elements.{All-cons}
use Rattle.std.proofs.lemmas.List.{length-map}
use Rattle.std.specs.Prelude.{All, slice_get}
use Rattle.hold_limits.specs.Placement.{distance}
use Rattle.hold_reach.specs.declared.span.Span.{Span}
use Rattle.price_trees.specs.Narrowing.{Ticks, ticks_within}
use Rattle.tree_certificate.specs.Listed.{listed_sibling}
use Rattle.tree_certificate.specs.declared.parts.Operation.{Operation}
use Rattle.tree_certificate.specs.declared.parts.Sibling.{Sibling}
use Rattle.choice_prices.specs.Pricing.{ticks_of}
use Rattle.hold_limits.specs.Problem.{Problem}
use Rattle.price_trees.specs.Prices.{Choice, Prices}
use Rattle.tree_checker.specs.GoodTrees.{Tree, TreeHolds, begun, sibling_tree}
use Rattle.tree_checker.specs.Steps.{tree_of, TreeIsRefused, TreesAreRefused}
use Rattle.tree_checker.specs.declared.rejection.TreeRejection.{TreeRejection}
use Rattle.tree_checker.specs.declared.rejection.TreeRejection.TheVariants.{WrongOperation}
use Rattle.tree_checker.proofs.PlaceLemmas.{mapped-at}

-- the tree at a place fails, and those before it hold
pub tree-fails-at : (t : Problem) (prices : List Prices) (trees : List Tree) (at first number : ℕ) (tree : Tree) (rejection : TreeRejection)
    → All (TreeHolds t prices) (take at trees) → slice_get trees at ≡ Some tree → number ≡ first + at → TreeIsRefused t prices tree number rejection
    → TreesAreRefused t prices trees first rejection
tree-fails-at t prices trees at first number tree rejection before stands is refused = ⊎_elim
    (λ none. inl none)
    (λ fails. inr (
      at,
      fails.0,
      fails.1 ∙ ap (λ n. WrongOperation n fails.0) is,
      record { before = before; fails = rw stands fails.2 },
    ))
    refused

-- the first tree holds, and one of the others fails
pub later-fails : (t : Problem) (prices : List Prices) (tree : Tree) (trees : List Tree) (rejection : TreeRejection)
    → TreeHolds t prices tree → TreesAreRefused t prices trees 1 rejection → TreesAreRefused t prices (tree ∷ trees) 0 rejection
later-fails t prices tree trees rejection holds refused = ⊎_elim
    (λ none. inl none)
    (λ fails. inr (
      suc fails.0,
      fails.1,
      fails.2 ∙ ap (λ n. WrongOperation n fails.1) (omega arith),
      record { before = All-cons (TreeHolds t prices) tree (take fails.0 trees) holds fails.3.before; fails = fails.3.fails },
    ))
    refused

-- Siblings --------------------------------------------------------------------------------------

-- the tree that is tested for a sibling is its own
pub sibling-tree-is : (t : Problem) (path : List ℕ) (ticks : Span) (d : ℕ) (choice : Choice) (operations : List Operation) (s : Sibling)
    → ticks_of ticks ≡ ticks_within t d → d ≡ distance t path → choice ≡ begun t path (s.rank, s.position) → operations ≡ s.operations.items
    → tree_of ticks choice operations ≡ sibling_tree t path (listed_sibling s)
sibling-tree-is t path ticks d choice operations s within measured is written =
    let near : ticks_of ticks ≡ ticks_within t (distance t path) = within ∙ ap (ticks_within t) measured in
    ap (λ (xs : List Operation). tree_of ticks choice xs) written ∙ ap₂ (λ (x : Ticks) (y : Choice). record { ticks = x; choice = y; operations = s.operations.items }) near is

-- the tree that is tested first
pub root-tree-is : (ticks : Span) (choice : Choice) (operations : List Operation) (wanted : Ticks) (whole : Choice) → ticks_of ticks ≡ wanted → choice ≡ whole
    → tree_of ticks choice operations ≡ record { ticks = wanted; choice = whole; operations = operations }
root-tree-is ticks choice operations wanted whole within is = ap₂ (λ (x : Ticks) (y : Choice). record { ticks = x; choice = y; operations = operations }) within is

pub sibling-at : (t : Problem) (path : List ℕ) (siblings : List Sibling) (at : ℕ) (s : Sibling) → slice_get siblings at ≡ Some s
    → slice_get (map (sibling_tree t path) (map listed_sibling siblings)) at ≡ Some (sibling_tree t path (listed_sibling s))
sibling-at t path siblings at s is = mapped-at (sibling_tree t path) (map listed_sibling siblings) at (listed_sibling s) (mapped-at listed_sibling siblings at s is)

pub length-trees : (t : Problem) (path : List ℕ) (siblings : List Sibling) → length (map (sibling_tree t path) (map listed_sibling siblings)) ≡ length siblings
length-trees t path siblings = omega (arith, length-map siblings listed_sibling, length-map (map listed_sibling siblings) (sibling_tree t path))
