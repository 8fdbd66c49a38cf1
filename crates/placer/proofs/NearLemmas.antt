-- near prefixes are those that are promising by the bounds of reach, and near cuts those that such a search leaves
use Rattle.std.proofs.Common.{◌≡◌, ⊎_elim, inr, ℕ, ◌≤ℤ◌, List, [], sym, subst}
use Rattle.std.proofs.lemmas.List.Elements.{All-weaker}
use Rattle.std.specs.Prelude.{AllPairs, Contains, IsSomeAnd, MatchOption}
use Rattle.hold_limits.specs.Problem.{Problem}
use Rattle.hold_limits.specs.Placement.{IsAtMost, IsBest, key}
use Rattle.hold_reach.specs.Reach.{IsViable}
use Rattle.certificate.specs.declared.parts.Certificate.{Certificate}
use Rattle.certificate.specs.Evidence.{claimed, paths_of}
use Rattle.certificate.specs.Good.{AreAtMost, IsBefore}
use Rattle.cert_checker.specs.Claims.{HasNoPlacement}
use Rattle.cert_checker.specs.FirstReason.{AreExactly}
use Rattle.path_search.specs.declared.found.Found.{Found}
use Rattle.best_first.specs.Promising.{IsPromising, IsPromisingAndIncomplete, HasPromisingParent, IsLeft, IsFoundFor}
use Rattle.best_first.proofs.FrontLemmas.{bound-exists}
use Rattle.best_first.proofs.BoundLemmas.{empty-promising}
use Rattle.placer.specs.Near.{IsNear, IsNearAndIncomplete, IsNearCut, IsNearCertificate}
use Rattle.best_first.specs.Bounds.{HasReachBound}
use Rattle.placer.proofs.ReachLemmas.{reach-bounds}

module _ (t : Problem) where
  pub near-promising : (prefix : List ℕ) → IsNear t prefix → IsPromising t (HasReachBound t) prefix
  near-promising prefix near =
      let here = bound-exists t prefix near.viable in
      record {
        bound = here.0;
        is = (near.viable, here.1);
        below = λ best of_task. subst (λ o. IsSomeAnd o (λ n. IsAtMost (n, prefix) (key t best))) here.1 (near.promising best of_task);
      }

  pub promising-near : (prefix : List ℕ) → IsPromising t (HasReachBound t) prefix → IsNear t prefix
  promising-near prefix promising = record {
    viable = promising.is.0;
    promising = λ best of_task. subst (λ o. IsSomeAnd o (λ n. IsAtMost (n, prefix) (key t best))) (sym promising.is.1) (promising.below best of_task);
  }

  -- the empty prefix is near where it is viable, so it is no cut
  left-cut : (prefix : List ℕ) → t.ideal_low ≤ℤ t.ideal_high → IsLeft t (HasReachBound t) prefix → IsNearCut t prefix
  left-cut prefix band left = record {
    viable = left.viable;
    incomplete = left.incomplete;
    far = λ near. left.unpromising (near-promising prefix near);
    parent = ⊎_elim
        (λ (none : prefix ≡ []).
        let viable : IsViable t [] = subst (IsViable t) none left.viable in
        let here = bound-exists t [] viable in
        absurd (left.unpromising (subst (IsPromising t (HasReachBound t)) (sym none) (empty-promising t (HasReachBound t) (HasReachBound t) (reach-bounds t band) here.0 (viable, here.1)))))
        (λ (parent : HasPromisingParent t (HasReachBound t) prefix). (parent.0, parent.1, parent.2, promising-near parent.0 parent.3))
        left.reached;
  }

  cut-left : (prefix : List ℕ) → IsNearCut t prefix → IsLeft t (HasReachBound t) prefix
  cut-left prefix cut =
      let parent = cut.parent in
      record {
        viable = cut.viable;
        incomplete = cut.incomplete;
        unpromising = λ promising. cut.far (promising-near prefix promising);
        reached = inr (parent.0, parent.1, parent.2, near-promising parent.0 parent.3);
      }

  -- Counts --------------------------------------------------------------------------------------

  pub near-at_most : (n : ℕ) → AreAtMost (IsPromising t (HasReachBound t)) n → AreAtMost (IsNear t) n
  near-at_most n few lists different near = few lists different (All-weaker (IsNear t) (IsPromising t (HasReachBound t)) near-promising lists near)

  near-exactly : (n : ℕ) → AreExactly (IsPromisingAndIncomplete t (HasReachBound t)) n → AreExactly (IsNearAndIncomplete t) n
  near-exactly n exactly = record {
    lists = exactly.lists;
    different = exactly.different;
    of_kind = All-weaker (IsPromisingAndIncomplete t (HasReachBound t)) (IsNearAndIncomplete t)
        (λ prefix is. record { near = promising-near prefix is.promising; incomplete = is.incomplete }) exactly.lists exactly.of_kind;
    every = λ prefix is. exactly.every prefix (record { promising = near-promising prefix is.near; incomplete = is.incomplete });
    number = exactly.number;
  }

-- The near certificate --------------------------------------------------------------------------

-- the certificate says what was found
pub record IsOf (found : Found) (c : Certificate) : Type 0 where
  pub claim : c.claim ≡ found.claim
  pub cuts : c.cuts ≡ paths_of found.cuts.items
  pub expanded : c.expanded ≡ found.expanded

pub IsNearCertificate-found : (t : Problem) (found : Found) (c : Certificate) → t.ideal_low ≤ℤ t.ideal_high → IsFoundFor t (HasReachBound t) found → IsOf found c → IsNearCertificate t c
IsNearCertificate-found t found c band is of_found = record {
  claim = subst (λ claim. MatchOption (claimed claim) (HasNoPlacement t) (IsBest t)) (sym of_found.claim) is.claim;
  cuts = λ prefix. (
    λ inside. left-cut t prefix band ((is.cuts prefix).0 (subst (λ cuts. Contains cuts prefix) of_found.cuts inside)),
    λ cut. subst (λ cuts. Contains cuts prefix) (sym of_found.cuts) ((is.cuts prefix).1 (cut-left t prefix cut)),
  );
  rising = subst (AllPairs IsBefore) (sym of_found.cuts) is.rising;
  expanded = subst (AreExactly (IsNearAndIncomplete t)) (sym of_found.expanded) (near-exactly t found.expanded is.expanded);
}
