-- the first reason for which a certificate with prices is not good
--
-- The claim is tested first. Then come the cuts in their order: each is to come after those before it, to be viable and incomplete, to
-- have prices, and to hold nothing better than the claimed path by them. Then come, in path order, the viable prefixes that begin with
-- no cut, as with any certificate. The first that fails is the reason.
use Rattle.std.specs.Prelude.{◌≡◌, ℕ, ◌⊎◌, List, take, slice_get, All, AllPairs, Option, Some}
use Rattle.hold_limits.specs.Problem.{Problem}
use Rattle.hold_reach.specs.Reach.{IsViable}
use Rattle.certificate.specs.Evidence.{claimed}
use Rattle.certificate.specs.Good.{IsIncomplete, AreInOrder}
use Rattle.cert_checker.specs.FirstReason.{ClaimHolds, IsInOrder, CanBeCut, PrefixFails}
use Rattle.cert_checker.specs.declared.reject.Reject.{Reject}
use Rattle.cert_checker.specs.declared.reject.Reject.TheVariants as unpriced
use Rattle.priced_certificate.specs.declared.parts.PricedCut.{PricedCut}
use Rattle.priced_certificate.specs.declared.parts.PricedCertificate.{PricedCertificate}
use Rattle.priced_checker.specs.Good.{prefix_of, prefixes_of, IsPriced, IsIdle}
use Rattle.priced_checker.specs.declared.reject.PricedReject.{PricedReject}
use Rattle.priced_checker.specs.declared.reject.PricedReject.TheVariants.{NotAPlacement, CutOrder, CutNotViable, CutWeak, Nearer, Exists, MoreExpanded, Prices}

-- what a reason against any certificate is called here
abbrev pub priced_reason : Reject → PricedReject
priced_reason unpriced.NotAPlacement = NotAPlacement
priced_reason (unpriced.CutOrder at) = CutOrder at
priced_reason (unpriced.CutNotViable at) = CutNotViable at
priced_reason (unpriced.CutWeak at) = CutWeak at
priced_reason (unpriced.Nearer path) = Nearer path
priced_reason (unpriced.Exists path) = Exists path
priced_reason unpriced.MoreExpanded = MoreExpanded

-- the cuts rise and none begins with another; each is viable and incomplete, has prices, and holds nothing better by them
pub record PricedCutsHold (t : Problem) (claim : Option (List ℕ)) (cuts : List PricedCut) : Type 0 where
  pub rising : AllPairs AreInOrder (prefixes_of cuts)
  pub viable : All (IsViable t) (prefixes_of cuts)
  pub incomplete : All (IsIncomplete t) (prefixes_of cuts)
  pub priced : All (IsPriced t) cuts
  pub idle : All (IsIdle t claim) cuts

-- the test comes to the cut at the place: it stands there, and those before it hold
pub record IsPricedTested (t : Problem) (claim : Option (List ℕ)) (cuts : List PricedCut) (at : ℕ) (cut : PricedCut) : Type 0 where
  pub stands : slice_get cuts at ≡ Some cut
  pub before : PricedCutsHold t claim (take at cuts)

-- the cut at the place is the first that fails, and this is its first fault
abbrev pub PricedCutFails : Problem → Option (List ℕ) → List PricedCut → PricedReject → Type 0
PricedCutFails t claim cuts (CutOrder at) =
    (cut : PricedCut) × IsPricedTested t claim cuts at cut × (IsInOrder (prefixes_of cuts) at (prefix_of cut) → ⊥)
PricedCutFails t claim cuts (CutNotViable at) =
    (cut : PricedCut) × IsPricedTested t claim cuts at cut × IsInOrder (prefixes_of cuts) at (prefix_of cut) × (CanBeCut t (prefix_of cut) → ⊥)
PricedCutFails t claim cuts (Prices at) =
    (cut : PricedCut) × IsPricedTested t claim cuts at cut × IsInOrder (prefixes_of cuts) at (prefix_of cut) × CanBeCut t (prefix_of cut)
    × (IsPriced t cut → ⊥)
PricedCutFails t claim cuts (CutWeak at) =
    (cut : PricedCut) × IsPricedTested t claim cuts at cut × IsInOrder (prefixes_of cuts) at (prefix_of cut) × CanBeCut t (prefix_of cut)
    × IsPriced t cut × (IsIdle t claim cut → ⊥)
PricedCutFails t claim cuts other = ⊥

-- one of the viable prefixes that begin with no cut is the first that fails, as with any certificate
abbrev pub PricedPrefixFails : Problem → Option (List ℕ) → List PricedCut → ℕ → PricedReject → Type 0
PricedPrefixFails t claim cuts allowed reason = (plain : Reject) × PrefixFails t claim (prefixes_of cuts) allowed plain × (reason ≡ priced_reason plain)

-- the reason is the first for which a certificate with this claim, these cuts and this number is not good: the claim fails; or it
-- holds and a cut fails; or the cuts hold too, and a viable prefix that begins with none of them fails
abbrev pub IsFirstPricedReason : Problem → Option (List ℕ) → List PricedCut → ℕ → PricedReject → Type 0
IsFirstPricedReason t claim cuts expanded reason =
    ((ClaimHolds t claim → ⊥) × (reason ≡ NotAPlacement))
    ⊎ (ClaimHolds t claim
    × (PricedCutFails t claim cuts reason ⊎ (PricedCutsHold t claim cuts × PricedPrefixFails t claim cuts expanded reason)))

-- the same of a certificate
abbrev pub IsFirstPricedReasonFor : Problem → PricedCertificate → PricedReject → Type 0
IsFirstPricedReasonFor t c = IsFirstPricedReason t (claimed c.claim) c.cuts c.expanded
