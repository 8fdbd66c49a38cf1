-- the near certificate is good
use Rattle.std.proofs.Common.{ℕ, ◌≤ℤ◌, List, Option, Some, None, sym, subst}
use Rattle.std.specs.Prelude.{IsSomeAnd, MatchOption}
use Rattle.hold_limits.specs.Problem.{Problem}
use Rattle.hold_limits.specs.Placement.{IsAtMost, IsBest, key}
use Rattle.certificate.specs.declared.parts.Certificate.{Certificate}
use Rattle.certificate.specs.Evidence.{claimed, paths_of}
use Rattle.certificate.specs.Good.{HoldsNothingBetter, IsGood}
use Rattle.cert_checker.specs.Claims.{HasNoPlacement}
use Rattle.path_search.specs.declared.found.Found.{Found}
use Rattle.best_first.specs.Bounds.{AreBounds, HasReachBound}
use Rattle.best_first.specs.Promising.{IsLeft, IsFoundFor}
use Rattle.best_first.proofs.CountLemmas.{All-from_contains}
use Rattle.best_first.proofs.FrontLemmas.{bound-exists}
use Rattle.best_first.proofs.CoverLemmas.{Covers-found, left-above, left-none}
use Rattle.placer.proofs.ReachLemmas.{reach-bounds}
use Rattle.placer.proofs.NearLemmas.{IsOf}

-- nothing better than what is claimed begins with what is left
left-idle : (t : Problem) (claim : Option (List ℕ)) → t.ideal_low ≤ℤ t.ideal_high → MatchOption claim (HasNoPlacement t) (IsBest t) → (cut : List ℕ) → IsLeft t (HasReachBound t) cut → HoldsNothingBetter t claim cut
left-idle t None band none cut left =
    let here = bound-exists t cut left.viable in
    absurd (left-none t (HasReachBound t) (HasReachBound t) (reach-bounds t band) cut here.0 left (left.viable, here.1) none)
left-idle t (Some best) band of_task cut left =
    let here = bound-exists t cut left.viable in
    subst (λ o. IsSomeAnd o (λ b. IsAtMost (key t best) (b, cut))) (sym here.1)
    (left-above t (HasReachBound t) (HasReachBound t) (reach-bounds t band) cut here.0 best left (left.viable, here.1) of_task)

found-good : (t : Problem) (found : Found) → t.ideal_low ≤ℤ t.ideal_high → IsFoundFor t (HasReachBound t) found → IsGood t (claimed found.claim) (paths_of found.cuts.items) found.expanded
found-good t found band is = record {
  covers = Covers-found t has has laws found is;
  idle = All-from_contains (HoldsNothingBetter t (claimed found.claim)) (paths_of found.cuts.items)
      (λ cut inside. left-idle t (claimed found.claim) band is.claim cut ((is.cuts cut).0 inside));
}
  where
    has : List ℕ → ℕ → Type 0
    has = HasReachBound t

    laws : AreBounds t has has
    laws = reach-bounds t band

pub IsGood-found : (t : Problem) (found : Found) (c : Certificate) → t.ideal_low ≤ℤ t.ideal_high → IsFoundFor t (HasReachBound t) found → IsOf found c → IsGood t (claimed c.claim) c.cuts c.expanded
IsGood-found t found c band is of_found =
    subst (λ claim. IsGood t (claimed claim) c.cuts c.expanded) (sym of_found.claim)
    (subst (λ cuts. IsGood t (claimed found.claim) cuts c.expanded) (sym of_found.cuts)
    (subst (λ n. IsGood t (claimed found.claim) (paths_of found.cuts.items) n) (sym of_found.expanded)
    (found-good t found band is)))
