-- good certificates with prices: where the claim follows from the prices and from what is left to look at
use Rattle.std.specs.Prelude.{ℕ, ℤ, ◌⊎◌, List, map, All, Option, Some, IsSomeAnd}
use Rattle.hold_limits.specs.Problem.{Problem}
use Rattle.hold_limits.specs.Placement.{key, IsAtMost}
use Rattle.hold_reach.specs.Reach.{Meets, gap_to_ideal}
use Rattle.certificate.specs.Evidence.{claimed}
use Rattle.certificate.specs.Good.{Covers}
use Rattle.assignment_prices.specs.Priced.{ArePricesOf, price_span}
use Rattle.priced_certificate.specs.declared.parts.PricedCut.{PricedCut}
use Rattle.priced_certificate.specs.declared.parts.PricedCertificate.{PricedCertificate}

-- the prefixes of the cuts
abbrev pub prefix_of : PricedCut → List ℕ
prefix_of cut = cut.prefix.items

abbrev pub prefixes_of : List PricedCut → List (List ℕ)
prefixes_of cuts = map prefix_of cuts

-- the cut's prices are prices of what its prefix leaves
abbrev pub IsPriced : Problem → PricedCut → Type 0
IsPriced t cut = ArePricesOf t (prefix_of cut) cut.prices

-- the span of the hold indices and the window have no tick in common; or a path is claimed, and the nearest tick of the span to the
-- ideal band, with the prefix, is no better
abbrev pub IsBeyond : Problem → Option (List ℕ) → List ℕ → ℤ × ℤ → Type 0
IsBeyond t claim prefix span =
    (Meets t.low t.high (Some span) → ⊥) ⊎ IsSomeAnd claim (λ path. IsAtMost (key t path) (gap_to_ideal t span, prefix))

-- the span of the cut's prices shows that nothing better than the claimed path begins with it
abbrev pub IsIdle : Problem → Option (List ℕ) → PricedCut → Type 0
IsIdle t claim cut = IsBeyond t claim (prefix_of cut) (price_span t (prefix_of cut) cut.prices)

-- a certificate with this claim, these cuts and this number is good
pub record IsGoodPriced (t : Problem) (claim : Option (List ℕ)) (cuts : List PricedCut) (expanded : ℕ) : Type 0 where
  -- the claimed path is admissible, the search can turn back at the cuts, and what they leave is no better and little
  pub covers : Covers t claim (prefixes_of cuts) expanded
  -- each cut has prices, and nothing better begins with it by its prices
  pub priced : All (IsPriced t) cuts
  pub idle : All (IsIdle t claim) cuts

-- the certificate is good for the task
abbrev pub IsGoodPricedFor : Problem → PricedCertificate → Type 0
IsGoodPricedFor t c = IsGoodPriced t (claimed c.claim) c.cuts c.expanded
