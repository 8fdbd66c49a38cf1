-- good certificates of trees
--
-- A certificate of trees claims that a path is the best, or that none is admissible. Its first tree shows that no path is nearer
-- to the ideal, or that none is admissible; and each smaller neighbour of the path, its numbers before a rank with a smaller one
-- there, has a tree that no path as near begins so. It is good where each tree holds and there is one for each neighbour that
-- needs one, so that whoever tests its operations need believe nobody.
use Rattle.std.specs.Prelude.{◌≡◌, ℕ, zero, suc, nat_lt, pos, int_lt, if◌then◌else◌, List, [], ◌∷◌, ◌++◌, length, map, take, All, Option, Some, None, IfSome}
use Rattle.std.specs.List.{filter}
use Rattle.std.specs.Option.{option_map_or}
use Rattle.hold_limits.specs.Problem.{Problem}
use Rattle.hold_limits.specs.Placement.{IsAdmissible, distance}
use Rattle.price_trees.specs.Prices.{Choice, Prices}
use Rattle.price_trees.specs.Narrowing.{Ticks, window, ticks_within, full, fixed}
use Rattle.certificate.specs.Evidence.{claimed}
use Rattle.tree_certificate.specs.declared.parts.Operation.{Operation}
use Rattle.tree_certificate.specs.Listed.{ListedSibling, ListedTrees}
use Rattle.choice_prices.specs.Listing.{IsClique, ArePriced, prices_of}
use Rattle.tree_checker.specs.TreeReading.{IsClosed, IsOpen, Outcome, Left, Reading}

-- Trees -----------------------------------------------------------------------------------------

-- operations that are to refute a choice for some ticks
pub record Tree : Type 0 where
  pub ticks : Ticks
  pub choice : Choice
  pub operations : List Operation

-- the choice, and none where there is no tick
abbrev pub to_refute : Ticks → Choice → List Choice
to_refute ticks choice = if int_lt ticks.high ticks.low then [] else choice ∷ []

abbrev pub TreeReading : Problem → List Prices → Tree → Outcome → Type 0
TreeReading t prices tree = Reading t tree.ticks prices (to_refute tree.ticks tree.choice) tree.operations

-- the operations refute the choice, and none is left
abbrev pub TreeHolds : Problem → List Prices → Tree → Type 0
TreeHolds t prices tree = TreeReading t prices tree (Left [])

-- The neighbours of a path ----------------------------------------------------------------------

-- a rank, and the position of the container at this rank
abbrev pub Neighbour : Type 0
Neighbour = ℕ × ℕ

-- the choice of the paths that have the path's numbers before the rank, and this position there
abbrev pub begun : Problem → List ℕ → Neighbour → Choice
begun t path n = fixed (take n.0 path ++ n.1 ∷ []) (full t)

-- the positions of a container's set that precede the path's
abbrev pub smaller_at : ℕ → ℕ → List ℕ → List Neighbour
smaller_at rank q set = map (λ p. (rank, p)) (filter (λ p. nat_lt p q) set)

-- the same from this rank on
abbrev pub smaller : ℕ → List ℕ → Choice → List Neighbour
smaller rank (q ∷ path) (set ∷ choice) = smaller_at rank q set ++ smaller (suc rank) path choice
smaller rank path choice = []

-- the smaller neighbours of the path, in path order: each has a smaller position that accepts the container
abbrev pub neighbours : Problem → List ℕ → List Neighbour
neighbours t path = smaller 0 path (full t)

-- just those are listed whose choice is open, so that they need a tree
pub data AreNeeded (t : Problem) (path : List ℕ) : List Neighbour → List Neighbour → Type 0 where
  End : AreNeeded t path [] []
  Idle : {n : Neighbour} {more listed : List Neighbour} → IsClosed t (begun t path n)
      → AreNeeded t path more listed → AreNeeded t path (n ∷ more) listed
  Needed : {n m : Neighbour} {more listed : List Neighbour} → IsOpen t (begun t path n) → m ≡ n
      → AreNeeded t path more listed → AreNeeded t path (n ∷ more) (m ∷ listed)

-- Certificates ----------------------------------------------------------------------------------

-- the ticks of paths that are nearer than at this distance: none where that is 0
abbrev pub nearer_ticks : Problem → ℕ → Ticks
nearer_ticks t zero = record { low = pos 1; high = pos 0 }
nearer_ticks t (suc d) = ticks_within t d

abbrev pub neighbour_of : ListedSibling → Neighbour
neighbour_of s = (s.rank, s.position)

-- the tree of a neighbour: no path as near begins so
abbrev pub sibling_tree : Problem → List ℕ → ListedSibling → Tree
sibling_tree t path s = record { ticks = ticks_within t (distance t path); choice = begun t path (neighbour_of s); operations = s.operations }

-- the trees of a certificate: the first one is over the full choice
abbrev pub trees_for : Problem → Option (List ℕ) → List Operation → List ListedSibling → List Tree
trees_for t None root siblings = record { ticks = window t; choice = full t; operations = root } ∷ []
trees_for t (Some path) root siblings =
    record { ticks = nearer_ticks t (distance t path); choice = full t; operations = root } ∷ map (sibling_tree t path) siblings

abbrev pub trees : Problem → ListedTrees → List Tree
trees t c = trees_for t (claimed c.claim) c.root c.siblings

-- the prices that the lists of a certificate stand for
abbrev pub prices_in : Problem → ListedTrees → List Prices
prices_in t c = map (prices_of t.hold c.cliques) c.prices

-- the claimed path; where none is claimed the empty one, which has no neighbour
abbrev pub path_in : ListedTrees → List ℕ
path_in c = option_map_or (λ path. path) (claimed c.claim) []

pub record IsGoodTrees (t : Problem) (c : ListedTrees) : Type 0 where
  -- the claimed path is admissible
  pub admissible : IfSome (claimed c.claim) (IsAdmissible t)
  -- the positions of each clique exclude each other
  pub cliques : All (IsClique t) c.cliques
  -- each price is within its bounds, and of something that there is
  pub priced : All (ArePriced t.hold (length c.cliques)) c.prices
  -- each tree holds
  pub refuted : All (TreeHolds t (prices_in t c)) (trees t c)
  -- the siblings are the smaller neighbours that need a tree
  pub siblings : AreNeeded t (path_in c) (neighbours t (path_in c)) (map neighbour_of c.siblings)
