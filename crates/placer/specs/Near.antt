-- near prefixes: those at which every search with this bound must look
use Rattle.std.specs.Prelude.{◌≡◌, ◌↔◌, ℕ, List, [], ◌∷◌, ◌++◌, AllPairs, Contains, MatchOption, IsSomeAnd}
use Rattle.hold_limits.specs.Problem.{Problem}
use Rattle.hold_limits.specs.Placement.{IsAtMost, IsBest, key}
use Rattle.hold_reach.specs.Reach.{IsViable, bound}
use Rattle.certificate.specs.declared.parts.Certificate.{Certificate}
use Rattle.certificate.specs.Evidence.{claimed}
use Rattle.certificate.specs.Good.{IsBefore, IsIncomplete}
use Rattle.cert_checker.specs.Claims.{HasNoPlacement}
use Rattle.cert_checker.specs.FirstReason.{AreExactly}
pub use Rattle.best_first.specs.Promising.{AreMoreThan}

-- a viable prefix whose bound, with its numbers, is at most the key of the best path. Where no path is admissible, every viable
-- prefix is near
pub record IsNear (t : Problem) (prefix : List ℕ) : Type 0 where
  pub viable : IsViable t prefix
  pub promising : (best : List ℕ) → IsBest t best → IsSomeAnd (bound t prefix) (λ b. IsAtMost (b, prefix) (key t best))

-- a near prefix that leaves containers
pub record IsNearAndIncomplete (t : Problem) (prefix : List ℕ) : Type 0 where
  pub near : IsNear t prefix
  pub incomplete : IsIncomplete t prefix

-- the prefix is a near one with a number more
abbrev pub HasNearParent : Problem → List ℕ → Type 0
HasNearParent t prefix = (parent : List ℕ) × (q : ℕ) × (prefix ≡ parent ++ q ∷ []) × IsNear t parent

-- a viable prefix that leaves containers and is not near, though it was until its last number
pub record IsNearCut (t : Problem) (prefix : List ℕ) : Type 0 where
  pub viable : IsViable t prefix
  pub incomplete : IsIncomplete t prefix
  pub far : IsNear t prefix → ⊥
  pub parent : HasNearParent t prefix

-- The near certificate --------------------------------------------------------------------------

-- the best path is claimed, or none where no path is admissible; the cuts are the viable prefixes that leave containers and have just
-- ceased to be near, in path order; and the near prefixes that leave containers are counted
pub record IsNearCertificate (t : Problem) (c : Certificate) : Type 0 where
  pub claim : MatchOption (claimed c.claim) (HasNoPlacement t) (IsBest t)
  pub cuts : (prefix : List ℕ) → Contains c.cuts prefix ↔ IsNearCut t prefix
  pub rising : AllPairs IsBefore c.cuts
  pub expanded : AreExactly (IsNearAndIncomplete t) c.expanded
