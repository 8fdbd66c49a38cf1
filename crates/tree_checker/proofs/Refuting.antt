-- what operations refute is refuted
use Rattle.std.proofs.Common.{◌≡◌, ⊎_elim, ℤ, true, false, List, [], ◌∷◌, ◌++◌, refl, arith}
use Rattle.std.proofs.lemmas.Bool.{cases_Bool}
use Rattle.std.proofs.lemmas.Int.{ints}
use Rattle.std.specs.Prelude.{◌<ℤ◌, int_lt, All, IsTrue}
use Rattle.std.specs.List.{AllByRecursion}
use Rattle.hold_limits.specs.Problem.{Problem}
use Rattle.position_set.specs.Sets.{has}
use Rattle.price_trees.specs.Prices.{Choice, Prices, AreOf}
use Rattle.price_trees.specs.Narrowing.{Ticks}
use Rattle.price_trees.specs.Trees.{Refuted, NoTick, Empty, Trim}
use Rattle.price_trees.specs.Trees as rule
use Rattle.tree_certificate.specs.declared.parts.Operation.{Operation}
use Rattle.tree_certificate.specs.declared.parts.Operation.TheVariants.{Leaf, Residue, Narrow, Split}
use Rattle.tree_checker.specs.TreeReading.{Holds, is_beyond, left_after, left_by_prices, Outcome, Left, Reading, Done, Closed, Missing, Wrong, Right}
use Rattle.tree_checker.specs.GoodTrees.{Tree, TreeHolds}
use Rattle.hold_choices.proofs.NarrowedLemmas.{narrowed-refuted}
use Rattle.tree_checker.proofs.FirstPlaces.{stands-at, some-at, at-place}

beyond : (a b : ℤ) → int_lt a b ≡ true → a <ℤ b
beyond a b less = omega (arith, ints, less)

by-prices : (t : Problem) (ticks : Ticks) (choice : Choice) (v : Prices) (choices : List Choice) → AreOf t v
    → AllByRecursion (Refuted t ticks) (left_by_prices t ticks choice v ++ choices) → Refuted t ticks choice × AllByRecursion (Refuted t ticks) choices
by-prices t ticks choice v choices of all = ⊎_elim
    (λ (past : is_beyond t ticks choice v ≡ true). (rule.Leaf v of (beyond _ _ past), rw past at all))
    (λ (within : is_beyond t ticks choice v ≡ false). let both = rw within at all in (Trim v of both.0, both.1))
    (cases_Bool (is_beyond t ticks choice v))

-- an operation that holds refutes the choice, once what it leaves is refuted
operation-refutes : (t : Problem) (ticks : Ticks) (prices : List Prices) (choice : Choice) (operation : Operation) (choices : List Choice) → All (AreOf t) prices
    → Holds t ticks prices choice operation → AllByRecursion (Refuted t ticks) (left_after t ticks prices choice operation ++ choices)
    → Refuted t ticks choice × AllByRecursion (Refuted t ticks) choices
operation-refutes t ticks prices choice (Leaf place) choices of holds all =
    let here = stands-at Prices prices place (λ listed. IsTrue (is_beyond t ticks choice listed)) holds in
    (rule.Leaf here.part (at-place Prices (AreOf t) prices place here.part of here.stands) (beyond _ _ here.fact), all)
operation-refutes t ticks prices choice Residue choices of holds all = (rule.Residue holds, all)
operation-refutes t ticks prices choice (Narrow place) choices of holds all =
    let here = some-at Prices prices place holds in
    by-prices t ticks choice here.part choices (at-place Prices (AreOf t) prices place here.part of here.stands) (rw here.stands at all)
operation-refutes t ticks prices choice (Split i names) choices of holds all = (rule.Split i (has names) all.0 all.1.0, all.1.1)

refutes : (t : Problem) (ticks : Ticks) (prices : List Prices) (choices : List Choice) (operations rest : List Operation) (outcome : Outcome) → All (AreOf t) prices
    → outcome ≡ Left rest → Reading t ticks prices choices operations outcome → AllByRecursion (Refuted t ticks) choices
refutes t ticks prices [] operations rest _ of is Done = tt
refutes t ticks prices (choice ∷ choices) operations rest outcome of is (Closed closed more) = (
  narrowed-refuted t ticks choice closed.left closed.narrowed (Empty closed.empty),
  refutes t ticks prices choices operations rest outcome of is more,
)
refutes t ticks prices (choice ∷ choices) [] rest _ of is (Missing left opens) = absurd (cc)
refutes t ticks prices (choice ∷ choices) (operation ∷ operations) rest _ of is (Wrong left opens wrong) = absurd (cc)
refutes t ticks prices (choice ∷ choices) (operation ∷ operations) rest outcome of is (Right left opens holds more) =
    let both = operation-refutes t ticks prices left operation choices of holds
    (refutes t ticks prices (left_after t ticks prices left operation ++ choices) operations rest outcome of is more) in
    (narrowed-refuted t ticks choice left opens.narrowed both.0, both.1)

-- a tree that holds
pub tree-refutes : (t : Problem) (prices : List Prices) (tree : Tree) → All (AreOf t) prices → TreeHolds t prices tree → Refuted t tree.ticks tree.choice
tree-refutes t prices tree of holds = ⊎_elim
    (λ (crossed : int_lt tree.ticks.high tree.ticks.low ≡ true). NoTick (beyond _ _ crossed))
    (λ (some : int_lt tree.ticks.high tree.ticks.low ≡ false). (refutes t tree.ticks prices (tree.choice ∷ []) tree.operations [] (Left []) of refl (rw some at holds)).0)
    (cases_Bool (int_lt tree.ticks.high tree.ticks.low))
