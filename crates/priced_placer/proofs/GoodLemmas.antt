-- what is found, with prices, is a good certificate of price-near prefixes
use Rattle.std.proofs.Common.{refl, ◌≡◌, ◌⊎◌, ⊎_elim, inl, inr, ℕ, ◌<◌, ℤ, ◌≤ℤ◌, ◌<ℤ◌, true, false, List, length, get_or, Option, Some, None, sym, subst, arith, int_lt}
use Rattle.std.proofs.lemmas.Bool.{cases_Bool}
use Rattle.std.proofs.lemmas.Int.{ints}
use Rattle.std.proofs.lemmas.List.{get_or-map, length-map}
use Rattle.std.proofs.lemmas.List.Elements.{All-weaker, Contains-get_or}
use Rattle.std.specs.Prelude.{All, AllPairs, Contains, MatchOption}
use Rattle.hold_limits.specs.Problem.{Problem}
use Rattle.hold_limits.specs.Placement.{IsBest}
use Rattle.hold_reach.specs.Reach.{HaveCommonNumber, Meets, gap_to_ideal}
use Rattle.hold_reach.proofs.CommonNumber.{common-from, common-bounds}
use Rattle.certificate.specs.Evidence.{claimed, paths_of}
use Rattle.certificate.specs.Good.{Covers, IsBefore}
use Rattle.cert_checker.specs.Claims.{HasNoPlacement}
use Rattle.cert_checker.specs.FirstReason.{AreExactly}
use Rattle.assignment_prices.specs.Priced.{price_span}
use Rattle.assignment_prices.specs.TightReach.{IsTightReach}
use Rattle.assignment_prices.proofs.LeastWay.{tight-exists}
use Rattle.path_search.specs.declared.found.Found.{Found}
use Rattle.best_first.specs.Promising.{IsLeft, IsFoundFor}
use Rattle.best_first.proofs.CoverLemmas.{Covers-found, left-above, left-none}
use Rattle.priced_certificate.specs.declared.parts.PricedCut.{PricedCut}
use Rattle.priced_certificate.specs.declared.parts.PricedCertificate.{PricedCertificate}
use Rattle.priced_checker.specs.Good.{prefix_of, prefixes_of, IsPriced, IsBeyond, IsIdle, IsGoodPriced}
use Rattle.priced_placer.specs.PriceNear.{HasTightBound, IsPriceNearAndIncomplete, IsPriceNearCertificate, IsTightlyPriced}
use Rattle.priced_placer.specs.Waits.{MayWaitTightly}
use Rattle.priced_placer.proofs.TightBounds.{tight-bounds}
use Rattle.priced_placer.proofs.PriceNearLemmas.{left-cut, cut-left, near-exactly}

-- Windows ---------------------------------------------------------------------------------------

-- two ranges have a number in common, or have none
common-or_not : (a b c d : ℤ) → HaveCommonNumber a b c d ⊎ (HaveCommonNumber a b c d → ⊥)
common-or_not a b c d = ⊎_elim
    (λ (ab : a ≤ℤ b). ⊎_elim
    (λ (ad : a ≤ℤ d). ⊎_elim
    (λ (cb : c ≤ℤ b). ⊎_elim
    (λ (cd : c ≤ℤ d). inl (common-from a b c d ab ad cb cd))
    (λ (not : c ≤ℤ d → ⊥). inr (λ common. not (common-bounds a b c d common).3))
    (at_most-or_not c d))
    (λ (not : c ≤ℤ b → ⊥). inr (λ common. not (common-bounds a b c d common).2))
    (at_most-or_not c b))
    (λ (not : a ≤ℤ d → ⊥). inr (λ common. not (common-bounds a b c d common).1))
    (at_most-or_not a d))
    (λ (not : a ≤ℤ b → ⊥). inr (λ common. not (common-bounds a b c d common).0))
    (at_most-or_not a b)
  where
    at_most-or_not : (x y : ℤ) → (x ≤ℤ y) ⊎ (x ≤ℤ y → ⊥)
    at_most-or_not x y = ⊎_elim
        (λ (less : int_lt y x ≡ true). inr (λ most. absurd (omega (arith, ints))))
        (λ (not : int_lt y x ≡ false). inl (omega (arith, ints)))
        (cases_Bool (int_lt y x))

-- a span whose ends are out of order meets no window
out_of_order : (low high : ℤ) (span : ℤ × ℤ) → span.1 <ℤ span.0 → Meets low high (Some span) → ⊥
out_of_order low high span less meets = omega (arith, ints, less, meets.from_a, meets.to_b)

-- What is left ----------------------------------------------------------------------------------

module _ (t : Problem) (band : t.ideal_low ≤ℤ t.ideal_high) where
  -- where the tight reach of what is left meets the window, it is no nearer than what is claimed
  met-beyond : (claim : Option (List ℕ)) (prefix : List ℕ) (ends : ℤ × ℤ) → MatchOption claim (HasNoPlacement t) (IsBest t) → IsLeft t (HasTightBound t) prefix → IsTightReach t prefix (Some ends)
      → Meets t.low t.high (Some ends) → IsBeyond t claim prefix ends
  met-beyond None prefix ends none left reach meets =
      absurd (left-none t (HasTightBound t) (MayWaitTightly t) (tight-bounds t band) prefix (gap_to_ideal t ends) left
      (record { viable = left.viable; ends = ends; reach = reach; window = meets; is = refl }) none)
  met-beyond (Some best) prefix ends of_task left reach meets =
      inr (left-above t (HasTightBound t) (MayWaitTightly t) (tight-bounds t band) prefix (gap_to_ideal t ends) best left
      (record { viable = left.viable; ends = ends; reach = reach; window = meets; is = refl }) of_task)

  -- prices whose span is the tight reach show that nothing better begins with what is left
  left-idle : (claim : Option (List ℕ)) (cut : PricedCut) → MatchOption claim (HasNoPlacement t) (IsBest t) → IsLeft t (HasTightBound t) (prefix_of cut) → IsTightlyPriced t cut → IsIdle t claim cut
  left-idle claim cut of_task left priced = let there = tight-exists t (prefix_of cut) in cases there.0 there.1
    where
      cases : (reached : Option (ℤ × ℤ)) → IsTightReach t (prefix_of cut) reached → IsIdle t claim cut
      cases None none = inl (out_of_order t.low t.high (price_span t (prefix_of cut) cut.prices) (priced.none none))
      cases (Some ends) reach = subst (IsBeyond t claim (prefix_of cut)) (sym (priced.tight ends reach)) (⊎_elim
          (λ (meets : HaveCommonNumber ends.0 ends.1 t.low t.high). met-beyond claim (prefix_of cut) ends of_task left reach meets)
          (λ (misses : HaveCommonNumber ends.0 ends.1 t.low t.high → ⊥). inl misses)
          (common-or_not ends.0 ends.1 t.low t.high))

-- What is found ---------------------------------------------------------------------------------

-- the certificate says what was found, with prices
pub record IsOf (t : Problem) (found : Found) (c : PricedCertificate) : Type 0 where
  pub claim : c.claim ≡ found.claim
  pub cuts : prefixes_of c.cuts ≡ paths_of found.cuts.items
  pub priced : All (IsTightlyPriced t) c.cuts
  pub expanded : c.expanded ≡ found.expanded

module _ (t : Problem) (found : Found) (c : PricedCertificate) (is : IsFoundFor t (HasTightBound t) found) (of_found : IsOf t found c) where
  claim-found : MatchOption (claimed c.claim) (HasNoPlacement t) (IsBest t)
  claim-found = subst (λ claim. MatchOption (claimed claim) (HasNoPlacement t) (IsBest t)) (sym of_found.claim) is.claim

  pub near-found : IsPriceNearCertificate t c
  near-found = record {
    claim = claim-found;
    cuts = λ prefix. (
      λ inside. left-cut t prefix ((is.cuts prefix).0 (subst (λ cuts. Contains cuts prefix) of_found.cuts inside)),
      λ cut. subst (λ cuts. Contains cuts prefix) (sym of_found.cuts) ((is.cuts prefix).1 (cut-left t prefix cut)),
    );
    rising = subst (AllPairs IsBefore) (sym of_found.cuts) is.rising;
    expanded = subst (AreExactly (IsPriceNearAndIncomplete t)) (sym of_found.expanded) (near-exactly t found.expanded is.expanded);
  }

  -- each cut was left
  cut-left-there : (k : ℕ) (d : PricedCut) → k < length c.cuts → IsLeft t (HasTightBound t) (prefix_of (get_or c.cuts k d))
  cut-left-there k d within =
      let inside : k < length (prefixes_of c.cuts) = omega (arith, within, length-map c.cuts prefix_of) in
      subst (IsLeft t (HasTightBound t)) (get_or-map prefix_of c.cuts k d (prefix_of d) within)
      ((is.cuts (get_or (prefixes_of c.cuts) k (prefix_of d))).0
      (subst (λ cuts. Contains cuts (get_or (prefixes_of c.cuts) k (prefix_of d))) of_found.cuts (Contains-get_or (prefixes_of c.cuts) k (prefix_of d) inside)))

  covers-found : t.ideal_low ≤ℤ t.ideal_high → Covers t (claimed c.claim) (prefixes_of c.cuts) c.expanded
  covers-found band =
      subst (λ claim. Covers t (claimed claim) (prefixes_of c.cuts) c.expanded) (sym of_found.claim)
      (subst (λ cuts. Covers t (claimed found.claim) cuts c.expanded) (sym of_found.cuts)
      (subst (λ n. Covers t (claimed found.claim) (paths_of found.cuts.items) n) (sym of_found.expanded)
      (Covers-found t (HasTightBound t) (MayWaitTightly t) (tight-bounds t band) found is)))

  pub good-found : t.ideal_low ≤ℤ t.ideal_high → IsGoodPriced t (claimed c.claim) c.cuts c.expanded
  good-found band = record {
    covers = covers-found band;
    priced = All-weaker (IsTightlyPriced t) (IsPriced t) (λ cut priced. priced.priced) c.cuts of_found.priced;
    idle = λ k d within. left-idle t band (claimed c.claim) (get_or c.cuts k d) claim-found (cut-left-there k d within) (of_found.priced k d within);
  }
