-- a certificate is good exactly where there is no reason against it
use Rattle.std.proofs.Common.{refl, ◌≡◌, ◌≢◌, ◌⊎◌, inr, ⊎_elim, ℕ, ◌<◌, ◌≤◌, List, [], ◌∷◌, ◌++◌, length, get_or, Option, Some, sym, subst, arith, append-nil, length-take}
use Rattle.std.proofs.lemmas.List.{get_or-take}
use Rattle.std.proofs.lemmas.List.Elements.{All-cons, All-weaker}
use Rattle.std.proofs.lemmas.List.Kept.{AllPairs-cons}
use Rattle.std.proofs.lemmas.Option.{get_or_from_slice_get, slice_get_within}
use Rattle.std.proofs.lemmas.Bool.{false≢true}
use Rattle.std.specs.declared.result.Result.{Result}
use Rattle.std.specs.Prelude.{All, AllPairs, slice_get, IsOk, IfOk, IfErr, Ok, Err, ◌↔◌}
use Rattle.certificate.specs.declared.parts.Certificate.{Certificate}
use Rattle.certificate.specs.Evidence.{claimed}
use Rattle.cert_checker.specs.Claims.{IsGoodFor}
use Rattle.base_words.specs.Lists.{Extends}
use Rattle.hold_limits.specs.Problem.{Problem}
use Rattle.hold_limits.specs.Placement.{IsAdmissible}
use Rattle.hold_limits.specs.Twins.{IsRising}
use Rattle.hold_reach.specs.Reach.{IsViable}
use Rattle.hold_reach.proofs.ViableLemmas.{IsViable-front, IsAdmissible-from_viable}
use Rattle.certificate.specs.Good.{IsBefore, IsIncomplete, AreInOrder, HoldsNothingBetter, IsExpanded, Covers, IsGood}
use Rattle.cert_checker.specs.FirstReason.{IsFirstReasonFor, ClaimHolds, CutsHold, IsInOrder, CutFails, IsReached, PathFails, OneTooMany, PrefixFails, IsFirstReason, AllPass}
use Rattle.cert_checker.specs.Steps.{Stops}
use Rattle.cert_checker.specs.declared.reject.Reject.{Reject}
use Rattle.cert_checker.specs.declared.reject.Reject.TheVariants.{NotAPlacement, CutOrder, CutNotViable, CutWeak, Nearer, Exists, MoreExpanded}
use Rattle.cert_checker.proofs.PathOrder.{IsBefore-not_itself}
use Rattle.cert_checker.proofs.Exactly.{AreExactly-most}
use Rattle.cert_checker.proofs.WalkLemmas.{Pass-same}

-- Where all holds -------------------------------------------------------------------------------

pub Covers-from : (t : Problem) (claim : Option (List ℕ)) (cuts : List (List ℕ)) (expanded : ℕ) → ClaimHolds t claim → AllPairs AreInOrder cuts → All (IsViable t) cuts → All (IsIncomplete t) cuts
    → AllPass t claim cuts expanded → Covers t claim cuts expanded
Covers-from t claim cuts expanded holds rising viable incomplete passed = record {
  admissible = holds;
  rising = rising;
  viable = viable;
  incomplete = incomplete;
  covered = λ path admissible rises uncut.
      let whole : IsAdmissible t (path ++ []) = subst (IsAdmissible t) (sym (append-nil path)) admissible in
      let front = IsViable-front t path [] whole (subst (λ p. IsRising t p) (sym (append-nil path)) rises) in
      passed.2.no_better path front uncut admissible.complete (path, refl);
  few = λ lists different each.
      let most = AreExactly-most (λ p. IsExpanded t cuts p × Extends [] p) passed.0 passed.2.expanded lists different
      (All-weaker (IsExpanded t cuts) (λ p. IsExpanded t cuts p × Extends [] p) (λ p is. (is, (p, refl))) lists each) in
      omega (arith, most, passed.1);
}

pub IsGood-from : (t : Problem) (claim : Option (List ℕ)) (cuts : List (List ℕ)) (expanded : ℕ) → ClaimHolds t claim → CutsHold t claim cuts → AllPass t claim cuts expanded → IsGood t claim cuts expanded
IsGood-from t claim cuts expanded holds hold passed = record {
  covers = Covers-from t claim cuts expanded holds hold.rising hold.viable hold.incomplete passed;
  idle = hold.idle;
}

-- Where there is a reason -----------------------------------------------------------------------

-- in a good certificate each cut is in order
pub good-in_order : (cuts : List (List ℕ)) (at : ℕ) (cut : List ℕ) → AllPairs AreInOrder cuts → slice_get cuts at ≡ Some cut → IsInOrder cuts at cut
good-in_order cuts at cut rising stands k d less =
    let inside = slice_get_within cuts at cut stands in
    let below : k < at = omega (arith, less, length-take at cuts) in
    subst (λ e. AreInOrder e cut) (sym (get_or-take at cuts k d below))
    (subst (AreInOrder (get_or cuts k d)) (get_or_from_slice_get cuts at cut d stands) (rising k at d below inside))

pub at-place : (P : List ℕ → Type 0) (cuts : List (List ℕ)) (at : ℕ) (cut : List ℕ) → All P cuts → slice_get cuts at ≡ Some cut → P cut
at-place P cuts at cut all stands = subst P (get_or_from_slice_get cuts at cut cut stands) (all at cut (slice_get_within cuts at cut stands))

cut-not_good : (t : Problem) (claim : Option (List ℕ)) (cuts : List (List ℕ)) (expanded : ℕ) (reason : Reject) → CutFails t claim cuts reason → IsGood t claim cuts expanded → ⊥
cut-not_good t claim cuts expanded NotAPlacement fails good = fails
cut-not_good t claim cuts expanded (CutOrder at) fails good = fails.2 (good-in_order cuts at fails.0 good.covers.rising fails.1.stands)
cut-not_good t claim cuts expanded (CutNotViable at) fails good =
    fails.3 (at-place (IsViable t) cuts at fails.0 good.covers.viable fails.1.stands, at-place (IsIncomplete t) cuts at fails.0 good.covers.incomplete fails.1.stands)
cut-not_good t claim cuts expanded (CutWeak at) fails good = fails.4 (at-place (HoldsNothingBetter t claim) cuts at fails.0 good.idle fails.1.stands)
cut-not_good t claim cuts expanded (Nearer path) fails good = fails
cut-not_good t claim cuts expanded (Exists path) fails good = fails
cut-not_good t claim cuts expanded MoreExpanded fails good = fails

path-not_covered : (t : Problem) (claim : Option (List ℕ)) (cuts : List (List ℕ)) (expanded : ℕ) (path : List ℕ) → PathFails t claim cuts expanded path → Covers t claim cuts expanded → ⊥
path-not_covered t claim cuts expanded path fails covers =
    fails.3 (covers.covered path (IsAdmissible-from_viable t path fails.2 fails.1.viable) fails.1.viable.rising fails.1.uncut)

many-not_covered : (t : Problem) (claim : Option (List ℕ)) (cuts : List (List ℕ)) (expanded : ℕ) → OneTooMany t claim cuts expanded → Covers t claim cuts expanded → ⊥
many-not_covered t claim cuts expanded many covers =
    let prefix = many.0 in
    let reached = many.1 in
    let earlier = reached.before.expanded in
    let here : IsExpanded t cuts prefix = record { viable = reached.viable; incomplete = many.2; uncut = reached.uncut } in
    let differ : All (λ q. prefix ≢ q) earlier.lists = All-weaker (λ p. IsExpanded t cuts p × IsBefore p prefix) (λ q. prefix ≢ q)
    (λ p both same. IsBefore-not_itself prefix (subst (λ x. IsBefore x prefix) (sym same) both.1)) earlier.lists earlier.of_kind in
    let each : All (IsExpanded t cuts) earlier.lists = All-weaker (λ p. IsExpanded t cuts p × IsBefore p prefix) (IsExpanded t cuts) (λ p both. both.0) earlier.lists earlier.of_kind in
    let few = covers.few (prefix ∷ earlier.lists)
    (AllPairs-cons (λ p q. p ≢ q) prefix earlier.lists differ earlier.different)
    (All-cons (IsExpanded t cuts) prefix earlier.lists here each) in
    omega (arith, few, earlier.number)

-- what the cuts leave is not covered where a prefix of it fails
pub prefix-not_covered : (t : Problem) (claim : Option (List ℕ)) (cuts : List (List ℕ)) (expanded : ℕ) (reason : Reject) → PrefixFails t claim cuts expanded reason → Covers t claim cuts expanded → ⊥
prefix-not_covered t claim cuts expanded NotAPlacement fails covers = fails
prefix-not_covered t claim cuts expanded (CutOrder at) fails covers = fails
prefix-not_covered t claim cuts expanded (CutNotViable at) fails covers = fails
prefix-not_covered t claim cuts expanded (CutWeak at) fails covers = fails
prefix-not_covered t claim cuts expanded (Nearer path) fails covers = path-not_covered t claim cuts expanded path.items fails.1 covers
prefix-not_covered t claim cuts expanded (Exists path) fails covers = path-not_covered t claim cuts expanded path.items fails.1 covers
prefix-not_covered t claim cuts expanded MoreExpanded fails covers = many-not_covered t claim cuts expanded fails covers

-- a good certificate has no reason against it
pub reason-not_good : (t : Problem) (claim : Option (List ℕ)) (cuts : List (List ℕ)) (expanded : ℕ) (reason : Reject) → IsFirstReason t claim cuts expanded reason → IsGood t claim cuts expanded → ⊥
reason-not_good t claim cuts expanded reason first good = ⊎_elim
    (λ claimed. claimed.0 good.covers.admissible)
    (λ rest. ⊎_elim
    (λ fails. cut-not_good t claim cuts expanded reason fails good)
    (λ fails. prefix-not_covered t claim cuts expanded reason fails.1 good.covers)
    rest.1)
    first

-- Where a walk stops ----------------------------------------------------------------------------

-- what stops a walk that began with the empty prefix is the first that fails
Stops-reached : (t : Problem) (claim : Option (List ℕ)) (cuts : List (List ℕ)) (allowed : ℕ) (prefix : List ℕ) → (stops : Stops t claim cuts (Extends []) allowed prefix) → IsReached t claim cuts allowed prefix stops.number
Stops-reached t claim cuts allowed prefix stops = record {
  viable = stops.viable;
  uncut = stops.uncut;
  before = Pass-same t claim cuts (λ p. Extends [] p × IsBefore p prefix) (λ p. IsBefore p prefix) stops.number
      (λ p viable both. both.1) (λ p viable before. ((p, refl), before)) stops.before;
  few = stops.few;
}

pub Stops-too_many : (t : Problem) (claim : Option (List ℕ)) (cuts : List (List ℕ)) (allowed : ℕ) (prefix : List ℕ) → IsIncomplete t prefix → Stops t claim cuts (Extends []) allowed prefix → OneTooMany t claim cuts allowed
Stops-too_many t claim cuts allowed prefix incomplete stops = ⊎_elim
    (λ many. (prefix, subst (λ n. IsReached t claim cuts allowed prefix n) many.1 (Stops-reached t claim cuts allowed prefix stops), incomplete))
    (λ better. absurd (omega (arith, incomplete, better.0)))
    stops.fails

pub Stops-path : (t : Problem) (claim : Option (List ℕ)) (cuts : List (List ℕ)) (allowed : ℕ) (prefix : List ℕ) → length t.items ≤ length prefix → Stops t claim cuts (Extends []) allowed prefix → PathFails t claim cuts allowed prefix
Stops-path t claim cuts allowed prefix long stops = ⊎_elim
    (λ many. absurd (omega (arith, long, many.0)))
    (λ better. (stops.number, Stops-reached t claim cuts allowed prefix stops, better.0, better.1))
    stops.fails

-- The verdict -----------------------------------------------------------------------------------

-- of a certificate, whose claim and cuts these are
pub good_for-from : (t : Problem) (c : Certificate) (claim : Option (List ℕ)) (cuts : List (List ℕ)) → claim ≡ claimed c.claim → cuts ≡ c.cuts → ClaimHolds t (claimed c.claim)
    → CutsHold t claim cuts × AllPass t claim cuts c.expanded → IsGoodFor t c
good_for-from t c claim cuts claim_is cuts_are holds both =
    let own : ClaimHolds t claim = subst (ClaimHolds t) (sym claim_is) holds in
    subst (λ cs. IsGood t (claimed c.claim) cs c.expanded) cuts_are
    (subst (λ o. IsGood t o cuts c.expanded) claim_is (IsGood-from t claim cuts c.expanded own both.0 both.1))

pub reason_for-from : (t : Problem) (c : Certificate) (claim : Option (List ℕ)) (cuts : List (List ℕ)) (reason : Reject) → claim ≡ claimed c.claim → cuts ≡ c.cuts → ClaimHolds t (claimed c.claim)
    → CutFails t claim cuts reason ⊎ (CutsHold t claim cuts × PrefixFails t claim cuts c.expanded reason) → IsFirstReasonFor t c reason
reason_for-from t c claim cuts reason claim_is cuts_are holds fails =
    let own : ClaimHolds t claim = subst (ClaimHolds t) (sym claim_is) holds in
    subst (λ cs. IsFirstReason t (claimed c.claim) cs c.expanded reason) cuts_are
    (subst (λ o. IsFirstReason t o cuts c.expanded reason) claim_is (inr (own, fails)))

-- an answer is Ok exactly where the certificate is good
pub accepted-good : {A : Type 0} (t : Problem) (c : Certificate) (result : Result A Reject) → IfOk result (λ _. IsGoodFor t c) → IfErr result (IsFirstReasonFor t c) → IsOk result ↔ IsGoodFor t c
accepted-good t c (Ok x) good refused = (λ _. good, λ _. refl)
accepted-good t c (Err reason) good refused =
    (λ ok. absurd (false≢true ok), λ is. absurd (reason-not_good t (claimed c.claim) c.cuts c.expanded reason refused is))
