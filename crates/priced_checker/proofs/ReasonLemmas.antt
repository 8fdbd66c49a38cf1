-- a certificate with prices is good exactly where there is no reason against it
use Rattle.std.proofs.Common.{refl, ◌≡◌, ◌⊎◌, ◌↔◌, inr, ⊎_elim, ℕ, List, Option, sym, subst}
use Rattle.std.proofs.lemmas.Bool.{false≢true}
use Rattle.std.proofs.lemmas.Option.{get_or_from_slice_get, slice_get_within}
use Rattle.std.specs.declared.result.Result.{Result}
use Rattle.std.specs.Prelude.{All, slice_get, IsOk, IfOk, IfErr, Ok, Err, Some}
use Rattle.hold_limits.specs.Problem.{Problem}
use Rattle.hold_reach.specs.Reach.{IsViable}
use Rattle.certificate.specs.Evidence.{claimed}
use Rattle.certificate.specs.Good.{IsIncomplete}
use Rattle.cert_checker.specs.FirstReason.{ClaimHolds, AllPass}
use Rattle.cert_checker.proofs.ReasonLemmas.{Covers-from, good-in_order, at-place, prefix-not_covered}
use Rattle.priced_certificate.specs.declared.parts.PricedCut.{PricedCut}
use Rattle.priced_certificate.specs.declared.parts.PricedCertificate.{PricedCertificate}
use Rattle.priced_checker.specs.Good.{prefix_of, prefixes_of, IsPriced, IsIdle, IsGoodPriced, IsGoodPricedFor}
use Rattle.priced_checker.specs.FirstReason.{PricedCutsHold, PricedCutFails, PricedPrefixFails, IsFirstPricedReason, IsFirstPricedReasonFor}
use Rattle.priced_checker.specs.declared.reject.PricedReject.{PricedReject}
use Rattle.priced_checker.specs.declared.reject.PricedReject.TheVariants.{NotAPlacement, CutOrder, CutNotViable, CutWeak, Nearer, Exists, MoreExpanded, Prices}
use Rattle.priced_checker.proofs.CutLemmas.{prefix-stands}

good-from : (t : Problem) (claim : Option (List ℕ)) (cuts : List PricedCut) (expanded : ℕ) → ClaimHolds t claim → PricedCutsHold t claim cuts → AllPass t claim (prefixes_of cuts) expanded → IsGoodPriced t claim cuts expanded
good-from t claim cuts expanded holds hold passed = record {
  covers = Covers-from t claim (prefixes_of cuts) expanded holds hold.rising hold.viable hold.incomplete passed;
  priced = hold.priced;
  idle = hold.idle;
}

cut-at : (P : PricedCut → Type 0) (cuts : List PricedCut) (at : ℕ) (cut : PricedCut) → All P cuts → slice_get cuts at ≡ Some cut → P cut
cut-at P cuts at cut all stands = subst P (get_or_from_slice_get cuts at cut cut stands) (all at cut (slice_get_within cuts at cut stands))

cut-not_good : (t : Problem) (claim : Option (List ℕ)) (cuts : List PricedCut) (expanded : ℕ) (reason : PricedReject) → PricedCutFails t claim cuts reason → IsGoodPriced t claim cuts expanded → ⊥
cut-not_good t claim cuts expanded NotAPlacement fails good = fails
cut-not_good t claim cuts expanded (CutOrder at) fails good =
    fails.2 (good-in_order (prefixes_of cuts) at (prefix_of fails.0) good.covers.rising (prefix-stands cuts at fails.0 fails.1.stands))
cut-not_good t claim cuts expanded (CutNotViable at) fails good =
    let stands = prefix-stands cuts at fails.0 fails.1.stands in
    fails.3 (at-place (IsViable t) (prefixes_of cuts) at (prefix_of fails.0) good.covers.viable stands, at-place (IsIncomplete t) (prefixes_of cuts) at (prefix_of fails.0) good.covers.incomplete stands)
cut-not_good t claim cuts expanded (Prices at) fails good = fails.4 (cut-at (IsPriced t) cuts at fails.0 good.priced fails.1.stands)
cut-not_good t claim cuts expanded (CutWeak at) fails good = fails.5 (cut-at (IsIdle t claim) cuts at fails.0 good.idle fails.1.stands)
cut-not_good t claim cuts expanded (Nearer path) fails good = fails
cut-not_good t claim cuts expanded (Exists path) fails good = fails
cut-not_good t claim cuts expanded MoreExpanded fails good = fails

-- a good certificate has no reason against it
reason-not_good : (t : Problem) (claim : Option (List ℕ)) (cuts : List PricedCut) (expanded : ℕ) (reason : PricedReject) → IsFirstPricedReason t claim cuts expanded reason → IsGoodPriced t claim cuts expanded → ⊥
reason-not_good t claim cuts expanded reason first good = ⊎_elim
    (λ claimed. claimed.0 good.covers.admissible)
    (λ rest. ⊎_elim
    (λ fails. cut-not_good t claim cuts expanded reason fails good)
    (λ fails. prefix-not_covered t claim (prefixes_of cuts) expanded fails.1.0 fails.1.1 good.covers)
    rest.1)
    first

-- The verdict -----------------------------------------------------------------------------------

-- of a certificate, whose claim and cuts these are
pub good_for-from : (t : Problem) (c : PricedCertificate) (claim : Option (List ℕ)) (cuts : List PricedCut) → claim ≡ claimed c.claim → cuts ≡ c.cuts → ClaimHolds t (claimed c.claim)
    → PricedCutsHold t claim cuts × AllPass t claim (prefixes_of cuts) c.expanded → IsGoodPricedFor t c
good_for-from t c claim cuts claim_is cuts_are holds both =
    let own : ClaimHolds t claim = subst (ClaimHolds t) (sym claim_is) holds in
    subst (λ cs. IsGoodPriced t (claimed c.claim) cs c.expanded) cuts_are
    (subst (λ o. IsGoodPriced t o cuts c.expanded) claim_is (good-from t claim cuts c.expanded own both.0 both.1))

pub reason_for-from : (t : Problem) (c : PricedCertificate) (claim : Option (List ℕ)) (cuts : List PricedCut) (reason : PricedReject) → claim ≡ claimed c.claim → cuts ≡ c.cuts → ClaimHolds t (claimed c.claim)
    → PricedCutFails t claim cuts reason ⊎ (PricedCutsHold t claim cuts × PricedPrefixFails t claim cuts c.expanded reason) → IsFirstPricedReasonFor t c reason
reason_for-from t c claim cuts reason claim_is cuts_are holds fails =
    let own : ClaimHolds t claim = subst (ClaimHolds t) (sym claim_is) holds in
    subst (λ cs. IsFirstPricedReason t (claimed c.claim) cs c.expanded reason) cuts_are
    (subst (λ o. IsFirstPricedReason t o cuts c.expanded reason) claim_is (inr (own, fails)))

-- an answer is Ok exactly where the certificate is good
pub accepted-good : {A : Type 0} (t : Problem) (c : PricedCertificate) (result : Result A PricedReject) → IfOk result (λ _. IsGoodPricedFor t c) → IfErr result (IsFirstPricedReasonFor t c) → IsOk result ↔ IsGoodPricedFor t c
accepted-good t c (Ok x) good refused = (λ _. good, λ _. refl)
accepted-good t c (Err reason) good refused =
    (λ ok. absurd (false≢true ok), λ is. absurd (reason-not_good t (claimed c.claim) c.cuts c.expanded reason refused is))
