-- what a good certificate proves
use Rattle.std.proofs.Common.{refl, ◌≡◌, ⊎_elim, ℕ, ◌≤◌, ◌≤ℤ◌, List, ◌++◌, Option, Some, None, sym, subst}
use Rattle.std.proofs.lemmas.List.Elements.{All-contains}
use Rattle.std.specs.Prelude.{All, IsSomeAnd, IsNone}
use Rattle.std.specs.List.{Contains}
use Rattle.base_words.specs.Lists.{Extends}
use Rattle.hold_limits.specs.Problem.{Problem}
use Rattle.hold_limits.specs.Placement.{Key, IsAtMost, IsAdmissible, IsBest, key, distance}
use Rattle.hold_limits.specs.Twins.{IsRising}
use Rattle.hold_limits.proofs.KeyOrder.{IsAtMost-trans}
use Rattle.hold_limits.proofs.EnumerationLemmas.{best_exists}
use Rattle.hold_limits.proofs.ExchangeLemmas.{best-rises}
use Rattle.hold_reach.specs.Reach.{bound}
use Rattle.hold_reach.proofs.ViableLemmas.{bound-most}
use Rattle.certificate.specs.Good.{HoldsNothingBetter, IsNoBetter, Covers, IsGood}
use Rattle.certificate.specs.Evidence.{claimed}
use Rattle.certificate.specs.declared.parts.Certificate.{Certificate}
use Rattle.cert_checker.specs.Claims.{HasNoPlacement, IsGoodFor, ClaimsNone}
use Rattle.cert_checker.proofs.PathOrder.{cut-or_uncut, at_most-extension}

at_least-bound : (t : Problem) (claim : Key) (cut : List ℕ) (rest : List ℕ) (b : Option ℕ)
    → IsSomeAnd b (λ n. n ≤ distance t (cut ++ rest)) → IsSomeAnd b (λ n. IsAtMost claim (n, cut)) → IsAtMost claim (key t (cut ++ rest))
at_least-bound t claim cut rest None bounded idle = absurd bounded
at_least-bound t claim cut rest (Some n) bounded idle =
    IsAtMost-trans claim (n, cut) (key t (cut ++ rest)) idle (at_most-extension n (distance t (cut ++ rest)) cut rest bounded)

-- nothing better than the claimed path begins with a cut at which nothing better is held
cut-idle : (t : Problem) (claim : Option (List ℕ)) (cut path : List ℕ) → t.ideal_low ≤ℤ t.ideal_high → HoldsNothingBetter t claim cut
    → IsAdmissible t path → IsRising t path → Extends cut path → IsNoBetter t claim path
cut-idle t None cut path band idle admissible rising extends = absurd idle
cut-idle t (Some claim) cut path band idle admissible rising extends =
    let whole : IsAdmissible t (cut ++ extends.0) = subst (IsAdmissible t) extends.1 admissible in
    let rises : IsRising t (cut ++ extends.0) = subst (IsRising t) extends.1 rising in
    let bounded = bound-most t cut extends.0 band whole rises in
    subst (λ p. IsAtMost (key t claim) (key t p)) (sym extends.1) (at_least-bound t (key t claim) cut extends.0 (bound t cut) bounded idle)

-- what begins with a cut is no better than the claimed path
abbrev pub AreIdle : Problem → Option (List ℕ) → List (List ℕ) → Type 0
AreIdle t claim cuts = (cut : List ℕ) → Contains cuts cut → (other : List ℕ) → IsAdmissible t other → IsRising t other → Extends cut other → IsNoBetter t claim other

-- so it is of cuts that hold nothing better
idle-cuts : (t : Problem) (claim : Option (List ℕ)) (cuts : List (List ℕ)) → t.ideal_low ≤ℤ t.ideal_high → All (HoldsNothingBetter t claim) cuts → AreIdle t claim cuts
idle-cuts t claim cuts band idle cut among other admissible rising extends =
    cut-idle t claim cut other band (All-contains (HoldsNothingBetter t claim) cuts cut idle among) admissible rising extends

-- where what begins with a cut is no better than the claimed path, no rising admissible path is
pub covers-no_better : (t : Problem) (claim : Option (List ℕ)) (cuts : List (List ℕ)) (expanded : ℕ) → Covers t claim cuts expanded → AreIdle t claim cuts
    → (path : List ℕ) → IsAdmissible t path → IsRising t path → IsNoBetter t claim path
covers-no_better t claim cuts expanded covers idle path admissible rising = ⊎_elim
    (λ cut. idle cut.0 cut.1 path admissible rising cut.2)
    (λ uncut. covers.covered path admissible rising uncut)
    (cut-or_uncut cuts path)

-- a claimed path is then the best
pub covers-best : (t : Problem) (path : List ℕ) (cuts : List (List ℕ)) (expanded : ℕ) → t.ideal_low ≤ℤ t.ideal_high → Covers t (Some path) cuts expanded
    → ((cut : List ℕ) → Contains cuts cut → (other : List ℕ) → IsAdmissible t other → IsRising t other → Extends cut other → IsNoBetter t (Some path) other)
    → IsBest t path
covers-best t path cuts expanded band covers idle = record {
  admissible = covers.admissible;
  least = λ other admissible.
      let first = best_exists t other admissible in
      let claimed : IsAtMost (key t path) (key t first.0) = covers-no_better t (Some path) cuts expanded covers idle first.0 first.1.admissible (best-rises t first.0 first.1) in
      IsAtMost-trans (key t path) (key t first.0) (key t other) claimed (first.1.least other admissible);
}

-- where none is claimed, and no rising admissible path begins with a cut, no path is admissible
pub covers-none : (t : Problem) (cuts : List (List ℕ)) (expanded : ℕ) → Covers t None cuts expanded
    → ((cut : List ℕ) → Contains cuts cut → (other : List ℕ) → IsAdmissible t other → IsRising t other → Extends cut other → ⊥)
    → HasNoPlacement t
covers-none t cuts expanded covers idle path admissible =
    let first = best_exists t path admissible in
    covers-no_better t None cuts expanded covers idle first.0 first.1.admissible (best-rises t first.0 first.1)

-- a good certificate that claims a path proves it best
pub good-best : (t : Problem) (path : List ℕ) (cuts : List (List ℕ)) (expanded : ℕ) → t.ideal_low ≤ℤ t.ideal_high → IsGood t (Some path) cuts expanded → IsBest t path
good-best t path cuts expanded band good = covers-best t path cuts expanded band good.covers (idle-cuts t (Some path) cuts band good.idle)

-- a good certificate that claims none proves that no path is admissible
pub good-none : (t : Problem) (cuts : List (List ℕ)) (expanded : ℕ) → IsGood t None cuts expanded → HasNoPlacement t
good-none t cuts expanded good = covers-none t cuts expanded good.covers
    (λ cut among other admissible rising extends. All-contains (HoldsNothingBetter t None) cuts cut good.idle among)

-- the same of the parts of a certificate
pub good_for-best : (t : Problem) (c : Certificate) (path : List ℕ) → t.ideal_low ≤ℤ t.ideal_high → IsGoodFor t c → claimed c.claim ≡ Some path → IsBest t path
good_for-best t c path band good is = good-best t path c.cuts c.expanded band (subst (λ claim. IsGood t claim c.cuts c.expanded) is good)

pub good_for-none : (t : Problem) (c : Certificate) → IsGoodFor t c → ClaimsNone c → HasNoPlacement t
good_for-none t c good none = good-none t c.cuts c.expanded
    (subst (λ claim. IsGood t claim c.cuts c.expanded) (is_none-same (claimed c.claim) none) good)
  where
    is_none-same : (o : Option (List ℕ)) → IsNone o → o ≡ None
    is_none-same None none = refl
    is_none-same (Some path) none = absurd (cc)
