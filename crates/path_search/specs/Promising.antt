-- promising prefixes: those at which every search by these bounds must look; and what the search finds
use Rattle.std.specs.Prelude.{◌≡◌, ◌≢◌, ◌↔◌, ◌⊎◌, ℕ, ◌<◌, List, [], ◌∷◌, ◌++◌, length, All, AllPairs, Contains, MatchOption}
use Rattle.hold_limits.specs.Placement.{IsAtMost}
use Rattle.certificate.specs.Evidence.{claimed, paths_of}
use Rattle.certificate.specs.Good.{IsBefore}
use Rattle.cert_checker.specs.FirstReason.{AreExactly}
use Rattle.path_search.specs.declared.found.Found.{Found}
use Rattle.path_search.specs.Worlds.{World, key_in, IsIncompleteIn, HasNone}

-- the prefix has a bound that, with its numbers, is at most the key of the best path. Where no path is admissible, every prefix
-- with a bound is promising
pub record IsPromising (w : World) (prefix : List ℕ) : Type 0 where
  pub bound : ℕ
  pub is : w.HasBound prefix bound
  pub below : (best : List ℕ) → w.IsBest best → IsAtMost (bound, prefix) (key_in w best)

-- a promising prefix that leaves containers
pub record IsPromisingAndIncomplete (w : World) (prefix : List ℕ) : Type 0 where
  pub promising : IsPromising w prefix
  pub incomplete : IsIncompleteIn w prefix

-- a viable prefix that has no bound: a search turns back there
pub record HasNoBound (w : World) (prefix : List ℕ) : Type 0 where
  pub viable : w.IsViable prefix
  pub none : (b : ℕ) → w.HasBound prefix b → ⊥

-- Cuts ------------------------------------------------------------------------------------------

-- the prefix is a promising one with a number more
abbrev pub HasPromisingParent : World → List ℕ → Type 0
HasPromisingParent w prefix = (parent : List ℕ) × (q : ℕ) × (prefix ≡ parent ++ q ∷ []) × IsPromising w parent

-- a viable prefix that leaves containers and is not promising, though without its last number it is, if it has one
pub record IsLeft (w : World) (prefix : List ℕ) : Type 0 where
  pub viable : w.IsViable prefix
  pub incomplete : IsIncompleteIn w prefix
  pub unpromising : IsPromising w prefix → ⊥
  pub reached : (prefix ≡ []) ⊎ HasPromisingParent w prefix

-- Counts ----------------------------------------------------------------------------------------

-- there are more than n different lists of the kind
pub record AreMoreThan (Kind : List ℕ → Type 0) (n : ℕ) : Type 0 where
  pub lists : List (List ℕ)
  pub different : AllPairs (λ p q. p ≢ q) lists
  pub of_kind : All Kind lists
  pub more : n < length lists

-- What is found ---------------------------------------------------------------------------------

-- the best path is claimed, or none where no path is admissible; the cuts are the prefixes that are left, in path order; and the
-- promising prefixes that leave containers are counted
pub record IsFoundFor (w : World) (found : Found) : Type 0 where
  pub claim : MatchOption (claimed found.claim) (HasNone w) (w.IsBest)
  pub cuts : (prefix : List ℕ) → Contains (paths_of found.cuts.items) prefix ↔ IsLeft w prefix
  pub rising : AllPairs IsBefore (paths_of found.cuts.items)
  pub expanded : AreExactly (IsPromisingAndIncomplete w) found.expanded
