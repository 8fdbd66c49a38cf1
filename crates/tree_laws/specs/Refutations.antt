-- trees as values, and the operations that write them down
--
-- A refutation of a choice is a tree of reasons why no regular placement among it has its hold index among the ticks.
-- Whether it refutes a choice is said of the tree itself, from its root down: no operation is read, and no choice waits
-- for its turn.
use Rattle.std.specs.Prelude.{◌≡◌, ℕ, ◌<ℤ◌, ◌≤ℤ◌, not, List, [], ◌∷◌, ◌++◌, length, map, slice_get, All, IfSome, IsSomeAnd}
use Rattle.hold_limits.specs.Problem.{Problem}
use Rattle.hold_limits.specs.Placement.{IsAdmissible}
use Rattle.position_set.specs.declared.set.PositionSet.{PositionSet}
use Rattle.position_set.specs.Sets.{has}
use Rattle.price_trees.specs.Prices.{Choice, Prices, value}
use Rattle.price_trees.specs.Narrowing.{Ticks, goal, trimmed, cut}
use Rattle.price_trees.specs.Trees.{IsMissed}
use Rattle.certificate.specs.Evidence.{claimed}
use Rattle.tree_certificate.specs.Listed.{ListedTrees}
use Rattle.tree_certificate.specs.declared.parts.Operation.{Operation}
use Rattle.tree_certificate.specs.declared.parts.Operation.TheVariants as operation
use Rattle.choice_prices.specs.Listing.{IsClique, ArePriced}
use Rattle.tree_checker.specs.TreeReading.{IsOpenAs, IsClosed}
use Rattle.tree_checker.specs.GoodTrees.{Tree, neighbours, AreNeeded, neighbour_of, trees, prices_in, path_in}

-- Trees -----------------------------------------------------------------------------------------

-- a list of prices is named by its place in the certificate
pub data Refutation : Type 0 where
  -- narrowed, the choice has a container without a position
  NoPosition : Refutation
  -- prices have a value beyond the ticks
  Leaf : ℕ → Refutation
  -- no tick leaves the remainder of the hold indices
  Residue : Refutation
  -- prices were to narrow the choice, but have a value beyond the ticks
  Beyond : ℕ → Refutation
  -- prices narrow the choice, and what they leave is refuted
  Narrow : ℕ → Refutation → Refutation
  -- the container at this rank has one of these positions, or another one, and both are refuted
  Split : ℕ → PositionSet → Refutation → Refutation → Refutation

-- What they show --------------------------------------------------------------------------------

-- narrowed, the choice has a position left for each container, and this is true of what is left
pub record OfLeft (t : Problem) (choice : Choice) (Fact : Choice → Type 0) : Type 0 where
  pub left : Choice
  pub opens : IsOpenAs t choice left
  pub fact : Fact left

-- there are prices at this place, and this is true of them
abbrev pub OfListed : List Prices → ℕ → (Prices → Type 0) → Type 0
OfListed prices place Fact = IsSomeAnd (slice_get prices place) Fact

-- the value of the prices is beyond the ticks
abbrev pub IsBeyond : Problem → Ticks → Choice → Prices → Type 0
IsBeyond t ticks choice v = goal ticks v.end <ℤ value t choice v

-- the tree refutes the choice for these ticks, by these prices
abbrev pub Refutes : Problem → Ticks → List Prices → Refutation → Choice → Type 0
Refutes t ticks prices NoPosition choice = IsClosed t choice
Refutes t ticks prices (Leaf place) choice = OfLeft t choice (λ left. OfListed prices place (IsBeyond t ticks left))
Refutes t ticks prices Residue choice = OfLeft t choice (IsMissed t ticks)
Refutes t ticks prices (Beyond place) choice = OfLeft t choice (λ left. OfListed prices place (IsBeyond t ticks left))
Refutes t ticks prices (Narrow place below) choice = OfLeft t choice (λ left. OfListed prices place (λ v.
    (IsBeyond t ticks left v → ⊥) × Refutes t ticks prices below (trimmed t ticks v left)))
Refutes t ticks prices (Split i names kept dropped) choice = OfLeft t choice (λ left.
    Refutes t ticks prices kept (cut (has names) i left)
    × Refutes t ticks prices dropped (cut (λ p. not (has names p)) i left))

-- How they are written --------------------------------------------------------------------------

-- an operation for each reason, before those of the trees below it; nothing where a container has no position
abbrev pub written : Refutation → List Operation
written NoPosition = []
written (Leaf place) = operation.Leaf place ∷ []
written Residue = operation.Residue ∷ []
written (Beyond place) = operation.Narrow place ∷ []
written (Narrow place below) = operation.Narrow place ∷ written below
written (Split i names kept dropped) = operation.Split i names ∷ (written kept ++ written dropped)

-- there is no tick, and nothing is written; or there is one, and a refutation of the choice is written as these
-- operations
pub data HasRefutation (t : Problem) (prices : List Prices) (tree : Tree) : Type 0 where
  NoTick : tree.ticks.high <ℤ tree.ticks.low → tree.operations ≡ [] → HasRefutation t prices tree
  By : tree.ticks.low ≤ℤ tree.ticks.high → (refutation : Refutation)
      → Refutes t tree.ticks prices refutation tree.choice → tree.operations ≡ written refutation
      → HasRefutation t prices tree

-- Certificates ----------------------------------------------------------------------------------

-- what makes a certificate good, where its trees hold by their refutations and not by the walk
pub record IsGoodByTrees (t : Problem) (c : ListedTrees) : Type 0 where
  -- the claimed path is admissible
  pub admissible : IfSome (claimed c.claim) (IsAdmissible t)
  -- the positions of each clique exclude each other
  pub cliques : All (IsClique t) c.cliques
  -- each price is within its bounds, and of something that there is
  pub priced : All (ArePriced t.hold (length c.cliques)) c.prices
  -- each tree has a refutation
  pub refuted : All (HasRefutation t (prices_in t c)) (trees t c)
  -- the siblings are the smaller neighbours that need a tree
  pub siblings : AreNeeded t (path_in c) (neighbours t (path_in c)) (map neighbour_of c.siblings)
