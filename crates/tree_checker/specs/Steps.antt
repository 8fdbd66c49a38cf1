-- what a check knows between its steps
use Rattle.std.specs.Prelude.{◌≡◌, ◌≢◌, ◌⊎◌, ℕ, ◌+◌, ◌<◌, ◌≤◌, List, [], ◌∷◌, length, map, reverse, drop, slice_index, All, Option, Some, None, IfSome}
use Rattle.std.specs.Option.{option_map_or}
use Rattle.hold_limits.specs.Problem.{Problem}
use Rattle.hold_limits.specs.Placement.{distance}
use Rattle.position_set.specs.declared.set.PositionSet.{PositionSet}
use Rattle.hold_reach.specs.declared.span.Span.{Span}
use Rattle.price_trees.specs.Prices.{Choice, Prices}
use Rattle.price_trees.specs.Narrowing.{Ticks, full}
use Rattle.tree_certificate.specs.Listed.{ListedPrices, listed_prices, listed_sibling}
use Rattle.tree_certificate.specs.declared.parts.Operation.{Operation}
use Rattle.tree_certificate.specs.declared.parts.Sibling.{Sibling}
use Rattle.tree_certificate.specs.declared.parts.TreeCertificate.{TreeCertificate}
use Rattle.hold_choices.specs.Conflicts.{AreConflicts}
use Rattle.choice_prices.specs.Listing.{IsClique, ArePriced, prices_of}
use Rattle.choice_prices.specs.Pricing.{ticks_of}
use Rattle.tree_checker.specs.TreeReading.{IsOpen, IsClosed, Holds, left_after, Outcome, Reading}
use Rattle.tree_checker.specs.GoodTrees.{Tree, TreeHolds, Neighbour, begun, smaller, neighbours, neighbour_of, AreNeeded, trees_for}
use Rattle.tree_checker.specs.FirstReason.{IsFirstWithout, OperationFails, TreeFails, DifferAt}
use Rattle.tree_checker.specs.declared.claim.Claimed.{Claimed}
use Rattle.tree_checker.specs.declared.evidence.TreeEvidence.{TreeEvidence}
use Rattle.tree_checker.specs.declared.operations.Left.{Left}
use Rattle.tree_checker.specs.declared.operations.Left.TheVariants.{Wrong, Nothing, One, Two}
use Rattle.tree_checker.specs.declared.rejection.TreeRejection.{TreeRejection}
use Rattle.tree_checker.specs.declared.rejection.TreeRejection.TheVariants.{NotAClique, WrongPrices, WrongOperation, WrongSibling, NoMemory}

-- Evidence --------------------------------------------------------------------------------------

-- the conflicts are those of the task, and the cliques and the prices hold
pub record IsReady (e : TreeEvidence) : Type 0 where
  pub conflicting : AreConflicts e.task.now e.conflicts.now
  pub cliques_hold : All (IsClique e.task.now) e.cliques.now
  pub priced : All (ArePriced e.task.now.hold (length e.cliques.now)) (map listed_prices e.prices.now)

-- the prices that its lists stand for
abbrev pub prices_listed : TreeEvidence → List Prices
prices_listed e = map (prices_of e.task.now.hold e.cliques.now) (map listed_prices e.prices.now)

-- Operations ------------------------------------------------------------------------------------

-- the choices that are left to refute, the next one first
abbrev pub left_choices : Left → List Choice
left_choices Wrong = []
left_choices Nothing = []
left_choices (One next) = next ∷ []
left_choices (Two next later) = next ∷ later ∷ []

-- the operation does not hold; or it does, and leaves these choices
abbrev pub Leaves : Problem → Ticks → List Prices → Choice → Operation → Left → Type 0
Leaves t ticks prices choice operation left =
    (left ≡ Wrong → Holds t ticks prices choice operation → ⊥)
    × (left ≢ Wrong → Holds t ticks prices choice operation × (left_after t ticks prices choice operation ≡ left_choices left))

-- The walk --------------------------------------------------------------------------------------

-- whatever comes of the pending choices, the last one first, comes of these choices
abbrev pub StandsFor : Problem → Ticks → List Prices → List Choice → List Choice → Type 0
StandsFor t ticks prices pending choices = (operations : List Operation) (outcome : Outcome)
    → Reading t ticks prices (reverse pending) operations outcome → Reading t ticks prices choices operations outcome

abbrev pub tree_of : Span → Choice → List Operation → Tree
tree_of ticks choice operations = record { ticks = ticks_of ticks; choice = choice; operations = operations }

-- Claims ----------------------------------------------------------------------------------------

-- the numbers of the claimed path, if there is one
abbrev pub path_of : Option Claimed → Option (List ℕ)
path_of None = None
path_of (Some found) = Some found.path.now.items

-- the distance that is kept with the claimed path is its own
abbrev pub IsMeasured : Problem → Option Claimed → Type 0
IsMeasured t claimed = IfSome claimed (λ found. (found.distance ≡ distance t found.path.now.items) × (found.distance ≤ 250000000000))

-- Parts that fail -------------------------------------------------------------------------------

abbrev pub CliqueIsRefused : Problem → List PositionSet → TreeRejection → Type 0
CliqueIsRefused t cliques rejection = (at : ℕ) × (rejection ≡ NotAClique at) × IsFirstWithout PositionSet (IsClique t) cliques at

abbrev pub PricesAreRefused : Problem → ℕ → List ListedPrices → TreeRejection → Type 0
PricesAreRefused t count lists rejection =
    (at : ℕ) × (rejection ≡ WrongPrices at) × IsFirstWithout ListedPrices (ArePriced t.hold count) lists at

-- an operation of the tree with this number fails, or there was no memory
abbrev pub TreeIsRefused : Problem → List Prices → Tree → ℕ → TreeRejection → Type 0
TreeIsRefused t prices tree number rejection =
    (rejection ≡ NoMemory) ⊎ ((at : ℕ) × (rejection ≡ WrongOperation number at) × OperationFails t prices tree at)

-- the same of the first of some trees that fails, where the first of them has this number
abbrev pub TreesAreRefused : Problem → List Prices → List Tree → ℕ → TreeRejection → Type 0
TreesAreRefused t prices trees first rejection =
    (rejection ≡ NoMemory) ⊎ ((n at : ℕ) × (rejection ≡ WrongOperation (first + n) at) × TreeFails t prices trees n at)

-- Siblings --------------------------------------------------------------------------------------

abbrev pub places : List Sibling → List Neighbour
places siblings = map neighbour_of (map listed_sibling siblings)

-- the position precedes the path's at the rank, and the choice is open
abbrev pub NeedsTree : Problem → List ℕ → Neighbour → Type 0
NeedsTree t path n = (n.1 < slice_index path n.0) × IsOpen t (begun t path n)

-- it does not precede it, or the choice is closed
abbrev pub IsIdle : Problem → List ℕ → Neighbour → Type 0
IsIdle t path n = (slice_index path n.0 ≤ n.1) ⊎ IsClosed t (begun t path n)

-- the smaller neighbours of the path from a rank on
abbrev pub neighbours_from : Problem → List ℕ → ℕ → List Neighbour
neighbours_from t path rank = smaller rank (drop rank path) (drop rank (full t))

-- from the place on what is listed first differs at this place
pub record DiffersFrom (t : Problem) (path : List ℕ) (listed more : List Neighbour) (from at : ℕ) : Type 0 where
  pub behind : ℕ
  pub place : at ≡ from + behind
  pub differs : DifferAt t path more (drop from listed) behind

abbrev pub SiblingIsRefused : Problem → List ℕ → List Neighbour → List Neighbour → ℕ → TreeRejection → Type 0
SiblingIsRefused t path listed more from rejection = (at : ℕ) × (rejection ≡ WrongSibling at) × DiffersFrom t path listed more from at

-- what is listed from one place on for some neighbours is decided by what is listed from a later one on for the rest of them
pub record LeadsTo (t : Problem) (path : List ℕ) (listed all : List Neighbour) (start : ℕ) (more : List Neighbour) (next : ℕ) : Type 0 where
  pub needed : AreNeeded t path more (drop next listed) → AreNeeded t path all (drop start listed)
  pub differs : (at : ℕ) → DiffersFrom t path listed more next at → DiffersFrom t path listed all start at

-- All together ----------------------------------------------------------------------------------

abbrev pub path_or_empty : Option Claimed → List ℕ
path_or_empty claimed = option_map_or (λ path. path) (path_of claimed) []

abbrev pub trees_in : TreeEvidence → Option Claimed → TreeCertificate → List Tree
trees_in e claimed c = trees_for e.task.now (path_of claimed) c.root.items (map listed_sibling c.siblings.items)

abbrev pub EvidenceHolds : TreeEvidence → Option Claimed → TreeCertificate → Type 0
EvidenceHolds e claimed c =
    All (TreeHolds e.task.now (prices_listed e)) (trees_in e claimed c)
    × AreNeeded e.task.now (path_or_empty claimed) (neighbours e.task.now (path_or_empty claimed)) (places c.siblings.items)

abbrev pub EvidenceFails : TreeEvidence → Option Claimed → TreeCertificate → TreeRejection → Type 0
EvidenceFails e claimed c rejection =
    TreesAreRefused e.task.now (prices_listed e) (trees_in e claimed c) 0 rejection
    ⊎ (All (TreeHolds e.task.now (prices_listed e)) (trees_in e claimed c)
    × SiblingIsRefused e.task.now (path_or_empty claimed) (places c.siblings.items) (neighbours e.task.now (path_or_empty claimed)) 0 rejection)
