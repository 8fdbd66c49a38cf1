-- price-near prefixes: those at which every search with the tight bound must look
use Rattle.std.specs.Prelude.{◌≡◌, ◌↔◌, ◌⊎◌, ℕ, ℤ, List, [], ◌∷◌, ◌++◌, AllPairs, Contains, MatchOption, Some, None, ◌<ℤ◌}
use Rattle.hold_limits.specs.Problem.{Problem}
use Rattle.hold_limits.specs.Placement.{IsAtMost, IsBest, key}
use Rattle.hold_reach.specs.Reach.{IsViable, Meets, gap_to_ideal}
use Rattle.certificate.specs.Evidence.{claimed}
use Rattle.certificate.specs.Good.{IsBefore, IsIncomplete}
use Rattle.cert_checker.specs.Claims.{HasNoPlacement}
use Rattle.cert_checker.specs.FirstReason.{AreExactly}
use Rattle.assignment_prices.specs.TightReach.{IsTightReach}
use Rattle.priced_certificate.specs.declared.parts.PricedCertificate.{PricedCertificate}
use Rattle.assignment_prices.specs.Priced.{price_span}
use Rattle.priced_certificate.specs.declared.parts.PricedCut.{PricedCut}
use Rattle.priced_checker.specs.Good.{prefix_of, prefixes_of, IsPriced}

-- a viable prefix whose tight reach has a tick in common with the window, and comes so near the ideal
pub record HasTightBound (t : Problem) (prefix : List ℕ) (bound : ℕ) : Type 0 where
  pub viable : IsViable t prefix
  pub ends : ℤ × ℤ
  pub reach : IsTightReach t prefix (Some ends)
  pub window : Meets t.low t.high (Some ends)
  pub is : bound ≡ gap_to_ideal t ends

-- it has such a bound, which with its numbers is at most the key of the best path. Where no path is admissible, every prefix with a
-- bound is price-near
pub record IsPriceNear (t : Problem) (prefix : List ℕ) : Type 0 where
  pub bound : ℕ
  pub has : HasTightBound t prefix bound
  pub promising : (best : List ℕ) → IsBest t best → IsAtMost (bound, prefix) (key t best)

-- a price-near prefix that leaves containers
pub record IsPriceNearAndIncomplete (t : Problem) (prefix : List ℕ) : Type 0 where
  pub near : IsPriceNear t prefix
  pub incomplete : IsIncomplete t prefix

-- the prefix is a price-near one with a number more
abbrev pub HasPriceNearParent : Problem → List ℕ → Type 0
HasPriceNearParent t prefix = (parent : List ℕ) × (q : ℕ) × (prefix ≡ parent ++ q ∷ []) × IsPriceNear t parent

-- a viable prefix that leaves containers and is not price-near, and is empty or was price-near until its last number
pub record IsPriceCut (t : Problem) (prefix : List ℕ) : Type 0 where
  pub viable : IsViable t prefix
  pub incomplete : IsIncomplete t prefix
  pub far : IsPriceNear t prefix → ⊥
  pub parent : (prefix ≡ []) ⊎ HasPriceNearParent t prefix

-- the best path is claimed, or none where no path is admissible; the cuts are these prefixes in path order; and the price-near prefixes
-- that leave containers are counted
pub record IsPriceNearCertificate (t : Problem) (c : PricedCertificate) : Type 0 where
  pub claim : MatchOption (claimed c.claim) (HasNoPlacement t) (IsBest t)
  pub cuts : (prefix : List ℕ) → Contains (prefixes_of c.cuts) prefix ↔ IsPriceCut t prefix
  pub rising : AllPairs IsBefore (prefixes_of c.cuts)
  pub expanded : AreExactly (IsPriceNearAndIncomplete t) c.expanded

-- Prices ----------------------------------------------------------------------------------------

-- the cut's prices are prices of what its prefix leaves, and their span is the tight reach; where it has none, they show so
pub record IsTightlyPriced (t : Problem) (cut : PricedCut) : Type 0 where
  pub priced : IsPriced t cut
  pub tight : (ends : ℤ × ℤ) → IsTightReach t (prefix_of cut) (Some ends) → price_span t (prefix_of cut) cut.prices ≡ ends
  pub none : IsTightReach t (prefix_of cut) None → (price_span t (prefix_of cut) cut.prices).1 <ℤ (price_span t (prefix_of cut) cut.prices).0
