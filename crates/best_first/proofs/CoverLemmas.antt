-- what is found covers every path: no path that the cuts leave is better than the claimed one
use Rattle.std.proofs.Common.{refl, ◌≡◌, ◌⊎◌, inl, inr, ⊎_elim, ℕ, ◌<◌, true, false, List, [], ◌∷◌, ◌++◌, length, get_or, Option, Some, None, sym, ap, ◌∙◌, subst, arith, append_assoc, append-nil, length-append, Less, Equal, nat_cmp}
use Rattle.std.proofs.lemmas.Cmp.{nat_list_cmp_total, tied_itself}
use Rattle.std.proofs.lemmas.List.Elements.{All-contains, All-weaker, Contains-get_or}
use Rattle.std.proofs.lemmas.Bool.{cases_Bool, true≢false}
use Rattle.std.proofs.lemmas.Slice.Eq.{bytes_eq-Decides}
use Rattle.std.specs.Prelude.{All, AllPairs, Contains, IfSome, MatchOption, bytes_eq}
use Rattle.std.specs.Cmp.Lexicographic.{slice_cmp}
use Rattle.base_words.specs.Lists.{Extends}
use Rattle.hold_limits.specs.Problem.{Problem}
use Rattle.hold_limits.specs.Placement.{IsAtMost, IsAdmissible, IsBest, key}
use Rattle.hold_limits.proofs.KeyOrder.{IsAtMost-total}
use Rattle.hold_reach.specs.Reach.{IsViable}
use Rattle.certificate.specs.Evidence.{claimed, paths_of}
use Rattle.certificate.specs.Good.{IsBefore, IsUncut, IsIncomplete, AreInOrder, AreAtMost, IsNoBetter, IsExpanded, Covers}
use Rattle.cert_checker.specs.Claims.{HasNoPlacement}
use Rattle.path_search.specs.declared.found.Found.{Found}
use Rattle.best_first.specs.Bounds.{AreBounds, world_of}
use Rattle.best_first.specs.Promising.{IsPromising, IsPromisingAndIncomplete, HasPromisingParent, IsLeft, IsFoundFor}
use Rattle.path_search.proofs.CountLemmas.{Contains-cons, Contains-later, Contains-cons_cases, Contains-nil, length-within, All-from_contains}
use Rattle.best_first.proofs.FrontLemmas.{IsViable-begins}
use Rattle.path_search.proofs.BoundLemmas.{IsPromising-begins, one_best, promising-none}
use Rattle.best_first.proofs.BoundLemmas.{searchable}

-- Lists -----------------------------------------------------------------------------------------

-- a list that goes on after the front goes on after it before its last number, or there
front-of_parent : (front rest parent : List ℕ) (r q : ℕ) → front ++ r ∷ rest ≡ parent ++ q ∷ [] → Extends front parent
front-of_parent [] rest parent r q is = (parent, refl)
front-of_parent (x ∷ front) rest [] r q is = absurd (omega (arith, ap length is, length-append front (r ∷ rest)))
front-of_parent (x ∷ front) rest (y ∷ parent) r q is =
    let later : front ++ r ∷ rest ≡ parent ++ q ∷ [] = cc in
    let head : y ≡ x = cc in
    let within = front-of_parent front rest parent r q later in
    (within.0, ap (λ zs. y ∷ zs) within.1 ∙ ap (λ z. z ∷ (front ++ within.0)) head)

-- a path is one of the paths, or is none of them
contained-or_not : (paths : List (List ℕ)) (p : List ℕ) → Contains paths p ⊎ (Contains paths p → ⊥)
contained-or_not [] p = inr (Contains-nil p)
contained-or_not (x ∷ paths) p = ⊎_elim
    (λ (same : bytes_eq x p ≡ true). inl (subst (Contains (x ∷ paths)) ((bytes_eq-Decides x p).0 same) (Contains-cons x paths)))
    (λ (differs : bytes_eq x p ≡ false). ⊎_elim
    (λ (inside : Contains paths p). inl (Contains-later x paths p inside))
    (λ (not : Contains paths p → ⊥). inr (λ inside. ⊎_elim
    (λ (is : x ≡ p). true≢false (sym ((bytes_eq-Decides x p).1 is) ∙ differs))
    not
    (Contains-cons_cases x paths p inside)))
    (contained-or_not paths p))
    (cases_Bool (bytes_eq x p))

-- The claim -------------------------------------------------------------------------------------

pub claim-admissible : (t : Problem) (claim : Option (List ℕ)) → MatchOption claim (HasNoPlacement t) (IsBest t) → IfSome claim (IsAdmissible t)
claim-admissible t None none = tt
claim-admissible t (Some best) is = is.admissible

pub claim-covers : (t : Problem) (claim : Option (List ℕ)) → MatchOption claim (HasNoPlacement t) (IsBest t) → (path : List ℕ) → IsAdmissible t path → IsNoBetter t claim path
claim-covers t None none path admissible = absurd (none path admissible)
claim-covers t (Some best) is path admissible = is.least path admissible

module _ (t : Problem) (HasBound MayWait : List ℕ → ℕ → Type 0) (laws : AreBounds t HasBound MayWait) where
  -- What is left --------------------------------------------------------------------------------

  -- the bound of what is left is at least the key of the best path
  pub left-above : (cut : List ℕ) (b : ℕ) (best : List ℕ) → IsLeft t HasBound cut → HasBound cut b → IsBest t best → IsAtMost (key t best) (b, cut)
  left-above cut b best left is of_task = ⊎_elim
      (λ (below : IsAtMost (b, cut) (key t best)). absurd (left.unpromising (record {
        bound = b;
        is = is;
        below = λ other of_other. subst (λ p. IsAtMost (b, cut) (key t p)) (one_best (world_of t HasBound) MayWait (searchable t HasBound MayWait laws) best other of_task of_other) below;
      })))
      (λ (above : IsAtMost (key t best) (b, cut)). above)
      (IsAtMost-total (b, cut) (key t best))

  -- where no path is admissible, what is left has no bound
  pub left-none : (cut : List ℕ) (b : ℕ) → IsLeft t HasBound cut → HasBound cut b → HasNoPlacement t → ⊥
  left-none cut b left is none = left.unpromising (promising-none (world_of t HasBound) MayWait (searchable t HasBound MayWait laws) cut b none is)

  -- nothing that is left begins with an earlier one
  left-apart : (a b : List ℕ) → IsLeft t HasBound a → IsLeft t HasBound b → IsBefore a b → Extends a b → ⊥
  left-apart a b first second earlier extends = cases extends.0 extends.1
    where
      cases : (rest : List ℕ) → b ≡ a ++ rest → ⊥
      cases [] is =
          let same : slice_cmp nat_cmp a a ≡ Less = subst (λ p. slice_cmp nat_cmp a p ≡ Less) (is ∙ append-nil a) earlier in
          let tied : slice_cmp nat_cmp a a ≡ Equal = tied_itself nat_list_cmp_total a in
          absurd (cc)
      cases (r ∷ rest) is = ⊎_elim
          (λ (none : b ≡ []). absurd (omega (arith, ap length (sym is ∙ none), length-append a (r ∷ rest))))
          (λ (parent : HasPromisingParent t HasBound b).
          let within = front-of_parent a rest parent.0 r parent.1 (sym is ∙ parent.2) in
          first.unpromising (IsPromising-begins (world_of t HasBound) MayWait (searchable t HasBound MayWait laws) a within.0 (subst (IsPromising t HasBound) within.1 parent.3)))
          second.reached

  -- What is found -------------------------------------------------------------------------------

  module _ (found : Found) (is : IsFoundFor t HasBound found) where
    pub found-viable : All (IsViable t) (paths_of found.cuts.items)
    found-viable = All-from_contains (IsViable t) (paths_of found.cuts.items) (λ prefix inside. ((is.cuts prefix).0 inside).viable)

    pub found-incomplete : All (IsIncomplete t) (paths_of found.cuts.items)
    found-incomplete = All-from_contains (IsIncomplete t) (paths_of found.cuts.items) (λ prefix inside. ((is.cuts prefix).0 inside).incomplete)

    pub found-rising : AllPairs AreInOrder (paths_of found.cuts.items)
    found-rising i j d earlier within = record {
      before = is.rising i j d earlier within;
      apart = left-apart (get_or cuts i d) (get_or cuts j d) (cut i d (omega (arith, earlier, within))) (cut j d within) (is.rising i j d earlier within);
    }
      where
        cuts : List (List ℕ)
        cuts = paths_of found.cuts.items

        cut : (i : ℕ) (d : List ℕ) → i < length cuts → IsLeft t HasBound (get_or cuts i d)
        cut i d within = (is.cuts (get_or cuts i d)).0 (Contains-get_or cuts i d within)

    pub found-covers : (path : List ℕ) → IsAdmissible t path → IsNoBetter t (claimed found.claim) path
    found-covers = claim-covers t (claimed found.claim) is.claim

    -- a prefix that leaves containers is promising, or is not
    promising-or_not : (prefix : List ℕ) → IsIncomplete t prefix → IsPromising t HasBound prefix ⊎ (IsPromising t HasBound prefix → ⊥)
    promising-or_not prefix incomplete = ⊎_elim
        (λ (inside : Contains is.expanded.lists prefix). inl (All-contains (IsPromisingAndIncomplete t HasBound) is.expanded.lists prefix is.expanded.of_kind inside).promising)
        (λ (not : Contains is.expanded.lists prefix → ⊥). inr (λ promising. not (is.expanded.every prefix (record { promising = promising; incomplete = incomplete }))))
        (contained-or_not is.expanded.lists prefix)

    -- a front of an uncut prefix is not left
    uncut-promising : (front rest : List ℕ) → IsViable t (front ++ rest) → IsIncomplete t (front ++ rest) → IsUncut (paths_of found.cuts.items) (front ++ rest) → (front ≡ []) ⊎ HasPromisingParent t HasBound front
        → IsPromising t HasBound front
    uncut-promising front rest viable incomplete uncut reached =
        let short : IsIncomplete t front = omega (arith, incomplete, length-append front rest) in
        ⊎_elim
        (λ (promising : IsPromising t HasBound front). promising)
        (λ (not : IsPromising t HasBound front → ⊥). absurd
        (let left : IsLeft t HasBound front = record { viable = IsViable-begins t front rest viable; incomplete = short; unpromising = not; reached = reached } in
        All-contains (λ c. Extends c (front ++ rest) → ⊥) (paths_of found.cuts.items) front uncut ((is.cuts front).1 left) (rest, refl)))
        (promising-or_not front short)

    -- an uncut viable prefix that leaves containers is promising where a front of it is
    uncut-grows : (front rest : List ℕ) → IsPromising t HasBound front → IsViable t (front ++ rest) → IsIncomplete t (front ++ rest) → IsUncut (paths_of found.cuts.items) (front ++ rest) → IsPromising t HasBound (front ++ rest)
    uncut-grows front [] promising viable incomplete uncut = subst (IsPromising t HasBound) (sym (append-nil front)) promising
    uncut-grows front (q ∷ rest) promising viable incomplete uncut =
        let joined : front ++ (q ∷ rest) ≡ (front ++ q ∷ []) ++ rest = sym (append_assoc front (q ∷ []) rest) in
        let whole = subst (IsViable t) joined viable in
        let short = subst (IsIncomplete t) joined incomplete in
        let whole_uncut = subst (IsUncut (paths_of found.cuts.items)) joined uncut in
        subst (IsPromising t HasBound) (sym joined)
        (uncut-grows (front ++ q ∷ []) rest (uncut-promising (front ++ q ∷ []) rest whole short whole_uncut (inr (front, q, refl, promising))) whole short whole_uncut)

    pub uncut-is_promising : (prefix : List ℕ) → IsExpanded t (paths_of found.cuts.items) prefix → IsPromisingAndIncomplete t HasBound prefix
    uncut-is_promising prefix expanded = record {
      promising = uncut-grows [] prefix (uncut-promising [] prefix expanded.viable expanded.incomplete expanded.uncut (inl refl)) expanded.viable expanded.incomplete expanded.uncut;
      incomplete = expanded.incomplete;
    }

    pub found-few : AreAtMost (IsExpanded t (paths_of found.cuts.items)) found.expanded
    found-few lists different expanded = omega (
      arith,
      is.expanded.number,
      length-within lists is.expanded.lists different
          (All-weaker (IsExpanded t (paths_of found.cuts.items)) (Contains is.expanded.lists)
          (λ prefix of_cuts. is.expanded.every prefix (uncut-is_promising prefix of_cuts)) lists expanded),
    )

    -- what is found covers all paths: it is as good as a certificate whose cuts are idle
    pub Covers-found : Covers t (claimed found.claim) (paths_of found.cuts.items) found.expanded
    Covers-found = record {
      admissible = claim-admissible t (claimed found.claim) is.claim;
      rising = found-rising;
      viable = found-viable;
      incomplete = found-incomplete;
      covered = λ path admissible rising uncut. found-covers path admissible;
      few = found-few;
    }
