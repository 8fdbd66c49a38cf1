-- what a good certificate of trees shows
use Rattle.std.proofs.Common.{◌≡◌, ⊎_elim, ℕ, zero, suc, ◌+◌, ◌-◌, ◌<◌, List, [], ◌∷◌, ◌++◌, length, map, take, Some, None, sym, ◌∙◌, subst, arith}
use Rattle.std.proofs.lemmas.List.{length-map}
use Rattle.std.proofs.lemmas.List.Elements.{All-head, All-tail, recursion_from_All, All-from_recursion}
use Rattle.std.specs.Prelude.{All, IfSome}
use Rattle.std.specs.List.{AllByRecursion}
use Rattle.std.specs.Option.{option_map_or}
use Rattle.hold_limits.specs.BranchOrder.{ordered}
use Rattle.hold_limits.specs.Faults.{IsLawful}
use Rattle.hold_limits.specs.Placement.{IsAdmissible, IsBest, distance}
use Rattle.hold_limits.specs.Problem.{Problem}
use Rattle.hold_limits.proofs.BranchOrderLemmas.{length-ordered}
use Rattle.price_trees.specs.Prices.{Prices, AreOf}
use Rattle.price_trees.specs.Narrowing.{Ticks, ticks_within, full, fixed, HasEmpty}
use Rattle.price_trees.specs.Trees.{Refuted, Empty, IsShownBest}
use Rattle.price_trees.proofs.BestPath.{none-admissible, shown-is-best}
use Rattle.certificate.specs.Evidence.{claimed}
use Rattle.tree_certificate.specs.declared.parts.Operation.{Operation}
use Rattle.tree_certificate.specs.Listed.{ListedPrices, ListedSibling, ListedTrees}
use Rattle.choice_prices.specs.Listing.{IsClique, prices_of}
use Rattle.choice_prices.proofs.ValueLemmas.{prices-of}
use Rattle.tree_checker.specs.GoodTrees.{TreeHolds, begun, neighbours, AreNeeded, nearer_ticks, neighbour_of, sibling_tree, trees_for, prices_in, IsGoodTrees}
use Rattle.tree_checker.proofs.Refuting.{tree-refutes}
use Rattle.tree_checker.proofs.Neighbours.{neighbour-or-empty, needed-refuted}

-- the prices of a certificate whose cliques hold are of what the task has little of
pub prices-are_of : (t : Problem) (c : ListedTrees) → All (IsClique t) c.cliques → All (AreOf t) (prices_in t c)
prices-are_of t c hold = All-from_recursion (AreOf t) (prices_in t c) (each c.prices)
  where
    each : (lists : List ListedPrices) → AllByRecursion (AreOf t) (map (prices_of t.hold c.cliques) lists)
    each [] = tt
    each (list ∷ lists) = (prices-of t c.cliques list hold, each lists)

siblings-refuted : (t : Problem) (prices : List Prices) (path : List ℕ) (siblings : List ListedSibling) → All (AreOf t) prices
    → AllByRecursion (TreeHolds t prices) (map (sibling_tree t path) siblings)
    → AllByRecursion (λ n. Refuted t (ticks_within t (distance t path)) (begun t path n)) (map neighbour_of siblings)
siblings-refuted t prices path [] of hold = tt
siblings-refuted t prices path (s ∷ siblings) of hold = (tree-refutes t prices (sibling_tree t path s) of hold.0, siblings-refuted t prices path siblings of hold.1)

nearer-refuted : (t : Problem) (d : ℕ) → Refuted t (nearer_ticks t d) (full t) → 0 < d → Refuted t (ticks_within t (d - 1)) (full t)
nearer-refuted t zero refuted some = absurd (omega arith)
nearer-refuted t (suc d) refuted some = subst (λ n. Refuted t (ticks_within t n) (full t)) (omega arith) refuted

-- a claimed path with trees that hold is shown to be the best
trees-show : (t : Problem) (prices : List Prices) (path : List ℕ) (root : List Operation) (siblings : List ListedSibling) → All (AreOf t) prices → IsAdmissible t path
    → All (TreeHolds t prices) (trees_for t (Some path) root siblings) → AreNeeded t path (neighbours t path) (map neighbour_of siblings) → IsShownBest t path
trees-show t prices path root siblings of admissible hold needed = record {
  admissible = admissible;
  nearer = nearer-refuted t (distance t path) (tree-refutes t prices _ of (All-head (TreeHolds t prices) _ _ hold));
  siblings = λ k p within less. ⊎_elim
      (λ (refuted : Refuted t ticks (begun t path (0 + k, p))). subst (λ r. Refuted t ticks (begun t path (r, p))) (omega arith) refuted)
      (λ (empty : HasEmpty (fixed (take k path ++ p ∷ []) (full t))). Empty empty)
      (neighbour-or-empty (λ n. Refuted t ticks (begun t path n)) 0 path (full t) k p whole within less all);
}
  where
    ticks : Ticks
    ticks = ticks_within t (distance t path)

    whole : length path ≡ length (full t)
    whole = admissible.complete ∙ sym (length-ordered t.items) ∙ sym (length-map (ordered t.items) _)

    all : AllByRecursion (λ n. Refuted t ticks (begun t path n)) (neighbours t path)
    all = needed-refuted t ticks path (neighbours t path) (map neighbour_of siblings) needed
        (siblings-refuted t prices path siblings of (recursion_from_All (TreeHolds t prices) _ (All-tail (TreeHolds t prices) _ _ hold)))

pub good-shows : (t : Problem) (c : ListedTrees) (path : List ℕ) → claimed c.claim ≡ Some path → IsGoodTrees t c → IsShownBest t path
good-shows t c path claims good = trees-show t (prices_in t c) path c.root c.siblings (prices-are_of t c good.cliques)
    (subst (λ claim. IfSome claim (IsAdmissible t)) claims good.admissible)
    (subst (λ claim. All (TreeHolds t (prices_in t c)) (trees_for t claim c.root c.siblings)) claims good.refuted)
    (subst (λ claim. AreNeeded t (option_map_or (λ path. path) claim []) (neighbours t (option_map_or (λ path. path) claim [])) (map neighbour_of c.siblings)) claims good.siblings)

pub good-best : (t : Problem) (c : ListedTrees) (path : List ℕ) → IsLawful t → claimed c.claim ≡ Some path → IsGoodTrees t c → IsBest t path
good-best t c path lawful claims good = shown-is-best t path lawful (good-shows t c path claims good)

pub good-none : (t : Problem) (c : ListedTrees) → claimed c.claim ≡ None → IsGoodTrees t c → (path : List ℕ) → IsAdmissible t path → ⊥
good-none t c claims good path admissible = none-admissible t
    (tree-refutes t (prices_in t c) _ (prices-are_of t c good.cliques)
    (All-head (TreeHolds t (prices_in t c)) _ [] (subst (λ claim. All (TreeHolds t (prices_in t c)) (trees_for t claim c.root c.siblings)) claims good.refuted)))
    path admissible
