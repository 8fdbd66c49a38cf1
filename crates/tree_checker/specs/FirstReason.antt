-- the first reason for which a certificate of trees is not good
--
-- The claim is tested first; then the cliques and the lists of prices, each in their order; then the operations of each tree in
-- turn; and at last the siblings against the smaller neighbours that need a tree. The first that fails is the reason.
use Rattle.std.specs.Prelude.{◌≡◌, ◌≢◌, ℕ, suc, ◌+◌, ◌⊎◌, List, [], ◌∷◌, length, map, take, slice_get, All, IfSome, IsSomeAnd}
use Rattle.hold_limits.specs.Problem.{Problem}
use Rattle.hold_limits.specs.Placement.{IsAdmissible}
use Rattle.price_trees.specs.Prices.{Prices}
use Rattle.certificate.specs.Evidence.{claimed}
use Rattle.tree_certificate.specs.declared.parts.Operation.{Operation}
use Rattle.tree_certificate.specs.Listed.{ListedTrees}
use Rattle.choice_prices.specs.Listing.{IsClique, ArePriced}
use Rattle.tree_checker.specs.TreeReading.{IsClosed, IsOpen, Left, Stopped}
use Rattle.tree_checker.specs.GoodTrees.{Tree, TreeReading, TreeHolds, Neighbour, begun, neighbours, neighbour_of, trees, prices_in, path_in}
use Rattle.tree_checker.specs.declared.rejection.TreeRejection.{TreeRejection}
use Rattle.tree_checker.specs.declared.rejection.TreeRejection.TheVariants.{NotAPlacement, NotAClique, WrongPrices, WrongOperation, WrongSibling, NoMemory}

-- the part at this place is the first of which the fact fails
pub record IsFirstWithout (A : Type 0) (Fact : A → Type 0) (parts : List A) (at : ℕ) : Type 0 where
  pub before : All Fact (take at parts)
  pub fails : IsSomeAnd (slice_get parts at) (λ part. Fact part → ⊥)

-- Trees -----------------------------------------------------------------------------------------

-- the operation at this place is the first that does not hold, is missing, or is too many
pub record OperationFails (t : Problem) (prices : List Prices) (tree : Tree) (at : ℕ) : Type 0 where
  pub rest : List Operation
  pub stops : TreeReading t prices tree (Stopped rest) ⊎ (TreeReading t prices tree (Left rest) × (rest ≢ []))
  pub place : at + length rest ≡ length tree.operations

-- the trees before this one hold, and it fails at this place
pub record TreeFails (t : Problem) (prices : List Prices) (trees : List Tree) (number at : ℕ) : Type 0 where
  pub before : All (TreeHolds t prices) (take number trees)
  pub fails : IsSomeAnd (slice_get trees number) (λ tree. OperationFails t prices tree at)

-- Siblings --------------------------------------------------------------------------------------

-- what is listed at this place is the first that is not the next needed neighbour, or is missing, or is too many
pub data DifferAt (t : Problem) (path : List ℕ) : List Neighbour → List Neighbour → ℕ → Type 0 where
  TooMany : {n : Neighbour} {listed : List Neighbour} → DifferAt t path [] (n ∷ listed) 0
  Missing : {n : Neighbour} {more : List Neighbour} → IsOpen t (begun t path n) → DifferAt t path (n ∷ more) [] 0
  Other : {n m : Neighbour} {more listed : List Neighbour} → IsOpen t (begun t path n) → m ≢ n
      → DifferAt t path (n ∷ more) (m ∷ listed) 0
  Idle : {n : Neighbour} {more listed : List Neighbour} {at : ℕ} → IsClosed t (begun t path n)
      → DifferAt t path more listed at → DifferAt t path (n ∷ more) listed at
  Needed : {n m : Neighbour} {more listed : List Neighbour} {at : ℕ} → IsOpen t (begun t path n) → m ≡ n
      → DifferAt t path more listed at → DifferAt t path (n ∷ more) (m ∷ listed) (suc at)

-- All together ----------------------------------------------------------------------------------

-- the claimed path is admissible, if one is claimed
abbrev pub ClaimHolds : Problem → ListedTrees → Type 0
ClaimHolds t c = IfSome (claimed c.claim) (IsAdmissible t)

-- and the positions of each clique exclude each other
abbrev pub CliquesHold : Problem → ListedTrees → Type 0
CliquesHold t c = ClaimHolds t c × All (IsClique t) c.cliques

-- and each price may stand there
abbrev pub PricesHold : Problem → ListedTrees → Type 0
PricesHold t c = CliquesHold t c × All (ArePriced t.hold (length c.cliques)) c.prices

-- and each tree holds
abbrev pub TreesHold : Problem → ListedTrees → Type 0
TreesHold t c = PricesHold t c × All (TreeHolds t (prices_in t c)) (trees t c)

-- the rejection is the first reason; to be out of memory says nothing about the certificate
abbrev pub IsRejected : Problem → ListedTrees → TreeRejection → Type 0
IsRejected t c NotAPlacement = ClaimHolds t c → ⊥
IsRejected t c (NotAClique at) = ClaimHolds t c × IsFirstWithout _ (IsClique t) c.cliques at
IsRejected t c (WrongPrices at) = CliquesHold t c × IsFirstWithout _ (ArePriced t.hold (length c.cliques)) c.prices at
IsRejected t c (WrongOperation number at) = PricesHold t c × TreeFails t (prices_in t c) (trees t c) number at
IsRejected t c (WrongSibling at) = TreesHold t c × DifferAt t (path_in c) (neighbours t (path_in c)) (map neighbour_of c.siblings) at
IsRejected t c NoMemory = Unit {0}
