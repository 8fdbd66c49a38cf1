-- a certificate has at most one first reason against it
use Rattle.std.proofs.Common.{refl, ◌≡◌, ◌≢◌, ◌⊎◌, inl, inr, ⊎_elim, ℕ, ◌<◌, List, ◌∷◌, get_or, take, Option, Some, Ordering, Less, Equal, Greater, nat_cmp, sym, ap, ◌∙◌, subst, arith, length-take}
use Rattle.std.proofs.lemmas.Bool.{false≢true}
use Rattle.std.proofs.lemmas.Cmp.{nat_list_cmp_total}
use Rattle.std.proofs.lemmas.List.{get_or-take}
use Rattle.std.proofs.lemmas.List.Elements.{All-cons, All-weaker}
use Rattle.std.proofs.lemmas.List.Kept.{AllPairs-cons}
use Rattle.std.proofs.lemmas.Option.{same_Some, slice_get-get_or, get_or_from_slice_get, slice_get_within}
use Rattle.std.specs.Prelude.{All, slice_get, IsSome, IsNone}
use Rattle.std.specs.Ordering.{ordering_reverse}
use Rattle.std.specs.Cmp.Lexicographic.{slice_cmp}
use Rattle.arrayvec.specs.ArrayVec.{ArrayVec}
use Rattle.hold_limits.specs.Problem.{Problem}
use Rattle.hold_limits.proofs.KeyOrder.{slice_cmp_equal}
use Rattle.hold_reach.specs.Reach.{IsViable}
use Rattle.certificate.specs.Good.{IsBefore, IsIncomplete, AreInOrder, HoldsNothingBetter, IsNoBetter, IsExpanded}
use Rattle.cert_checker.specs.FirstReason.{CutsHold, IsTested, IsInOrder, CanBeCut, CutFails, IsComplete, IsReached, PrefixFails, IsFirstReason}
use Rattle.cert_checker.specs.declared.reject.Reject.{Reject}
use Rattle.cert_checker.specs.declared.reject.Reject.TheVariants.{NotAPlacement, CutOrder, CutNotViable, CutWeak, Nearer, Exists, MoreExpanded}
use Rattle.cert_checker.proofs.PathOrder.{IsBefore-not_itself, IsBefore-trans}
use Rattle.cert_checker.proofs.CutOrder.{less_same_or_more}
use Rattle.cert_checker.proofs.Exactly.{AreExactly-most}
use Rattle.cert_checker.proofs.ReasonLemmas.{good-in_order, at-place}

-- Cuts ------------------------------------------------------------------------------------------

-- what a cut that holds has
record CutHolds (t : Problem) (claim : Option (List ℕ)) (cuts : List (List ℕ)) (at : ℕ) (cut : List ℕ) : Type 0 where
  pub order : IsInOrder cuts at cut
  pub can : CanBeCut t cut
  pub idle : HoldsNothingBetter t claim cut

-- a fault of the cut at the place
data CutFault (t : Problem) (claim : Option (List ℕ)) (cuts : List (List ℕ)) (at : ℕ) (cut : List ℕ) : Reject → Type 0 where
  disorder : (IsInOrder cuts at cut → ⊥) → CutFault t claim cuts at cut (CutOrder at)
  unviable : IsInOrder cuts at cut → (CanBeCut t cut → ⊥) → CutFault t claim cuts at cut (CutNotViable at)
  weak : IsInOrder cuts at cut → CanBeCut t cut → (HoldsNothingBetter t claim cut → ⊥) → CutFault t claim cuts at cut (CutWeak at)

fault-not_held : (t : Problem) (claim : Option (List ℕ)) (cuts : List (List ℕ)) (at : ℕ) (cut : List ℕ) (reason : Reject) → CutFault t claim cuts at cut reason → CutHolds t claim cuts at cut → ⊥
fault-not_held t claim cuts at cut _ (disorder not) holds = not holds.order
fault-not_held t claim cuts at cut _ (unviable order not) holds = not holds.can
fault-not_held t claim cuts at cut _ (weak order can not) holds = not holds.idle

-- a cut has one first fault
one-fault : (t : Problem) (claim : Option (List ℕ)) (cuts : List (List ℕ)) (at : ℕ) (cut : List ℕ) (a b : Reject) → CutFault t claim cuts at cut a → CutFault t claim cuts at cut b → a ≡ b
one-fault t claim cuts at cut _ _ (disorder not) (disorder also) = refl
one-fault t claim cuts at cut _ _ (disorder not) (unviable order also) = absurd (not order)
one-fault t claim cuts at cut _ _ (disorder not) (weak order can also) = absurd (not order)
one-fault t claim cuts at cut _ _ (unviable order not) (disorder also) = absurd (also order)
one-fault t claim cuts at cut _ _ (unviable order not) (unviable second also) = refl
one-fault t claim cuts at cut _ _ (unviable order not) (weak second can also) = absurd (not can)
one-fault t claim cuts at cut _ _ (weak order can not) (disorder also) = absurd (also order)
one-fault t claim cuts at cut _ _ (weak order can not) (unviable second also) = absurd (also can)
one-fault t claim cuts at cut _ _ (weak order can not) (weak second may also) = refl

-- where the first fault is
record FaultAt (t : Problem) (claim : Option (List ℕ)) (cuts : List (List ℕ)) (reason : Reject) : Type 0 where
  pub at : ℕ
  pub cut : List ℕ
  pub tested : IsTested t claim cuts at cut
  pub fault : CutFault t claim cuts at cut reason

fault-at : (t : Problem) (claim : Option (List ℕ)) (cuts : List (List ℕ)) (reason : Reject) → CutFails t claim cuts reason → FaultAt t claim cuts reason
fault-at t claim cuts NotAPlacement fails = absurd fails
fault-at t claim cuts (CutOrder at) fails = record { at = at; cut = fails.0; tested = fails.1; fault = disorder fails.2 }
fault-at t claim cuts (CutNotViable at) fails = record { at = at; cut = fails.0; tested = fails.1; fault = unviable fails.2 fails.3 }
fault-at t claim cuts (CutWeak at) fails = record { at = at; cut = fails.0; tested = fails.1; fault = weak fails.2 fails.3 fails.4 }
fault-at t claim cuts (Nearer path) fails = absurd fails
fault-at t claim cuts (Exists path) fails = absurd fails
fault-at t claim cuts MoreExpanded fails = absurd fails

-- a cut among those that hold has no fault
held : (t : Problem) (claim : Option (List ℕ)) (cuts : List (List ℕ)) (at : ℕ) (cut : List ℕ) → CutsHold t claim cuts → slice_get cuts at ≡ Some cut → CutHolds t claim cuts at cut
held t claim cuts at cut hold stands = record {
  order = good-in_order cuts at cut hold.rising stands;
  can = (at-place (IsViable t) cuts at cut hold.viable stands, at-place (IsIncomplete t) cuts at cut hold.incomplete stands);
  idle = at-place (HoldsNothingBetter t claim) cuts at cut hold.idle stands;
}

held-before : (t : Problem) (claim : Option (List ℕ)) (cuts : List (List ℕ)) (at n : ℕ) (cut : List ℕ) → at < n → CutsHold t claim (take n cuts) → slice_get cuts at ≡ Some cut → CutHolds t claim cuts at cut
held-before t claim cuts at n cut less hold stands =
    let inside = slice_get_within cuts at cut stands in
    let same : get_or (take n cuts) at cut ≡ cut = get_or-take n cuts at cut less ∙ get_or_from_slice_get cuts at cut cut stands in
    let there : slice_get (take n cuts) at ≡ Some cut = slice_get-get_or (take n cuts) at cut (omega (arith, less, inside, length-take n cuts)) ∙ ap (λ c. Some c) same in
    let kept = held t claim (take n cuts) at cut hold there in
    record { order = in_whole kept.order; can = kept.can; idle = kept.idle }
  where
    in_whole : IsInOrder (take n cuts) at cut → IsInOrder cuts at cut
    in_whole order k d inside =
        let below : k < at = omega (arith, inside, length-take at cuts) in
        let whole = slice_get_within cuts at cut stands in
        subst (λ e. AreInOrder e cut) (get_or-take at (take n cuts) k d below ∙ get_or-take n cuts k d (omega (arith, below, less)) ∙ sym (get_or-take at cuts k d below))
        (order k d (omega (arith, below, less, whole, length-take at (take n cuts), length-take n cuts)))

one-cut : (t : Problem) (claim : Option (List ℕ)) (cuts : List (List ℕ)) (a b : Reject) → FaultAt t claim cuts a → FaultAt t claim cuts b → a ≡ b
one-cut t claim cuts a b first second = ⊎_elim
    (λ less. absurd (fault-not_held t claim cuts first.at first.cut a first.fault (held-before t claim cuts first.at second.at first.cut less second.tested.before first.tested.stands)))
    (λ rest. ⊎_elim
    (λ same. at_one same)
    (λ more. absurd (fault-not_held t claim cuts second.at second.cut b second.fault (held-before t claim cuts second.at first.at second.cut more first.tested.before second.tested.stands)))
    rest)
    (less_same_or_more first.at second.at)
  where
    at_one : first.at ≡ second.at → a ≡ b
    at_one same =
        let moved : CutFault t claim cuts second.at first.cut a = subst (λ n. CutFault t claim cuts n first.cut a) same first.fault in
        let stands : slice_get cuts second.at ≡ Some first.cut = subst (λ n. slice_get cuts n ≡ Some first.cut) same first.tested.stands in
        let cut : first.cut ≡ second.cut = same_Some first.cut second.cut (sym stands ∙ second.tested.stands) in
        one-fault t claim cuts second.at second.cut a b (subst (λ c. CutFault t claim cuts second.at c a) cut moved) second.fault

-- Prefixes --------------------------------------------------------------------------------------

-- how the first prefix that fails does
data PrefixFault (t : Problem) (claim : Option (List ℕ)) (allowed : ℕ) (prefix : List ℕ) (n : ℕ) : Reject → Type 0 where
  nearer : (path : ArrayVec ℕ) → path.items ≡ prefix → IsSome claim → IsComplete t prefix → (IsNoBetter t claim prefix → ⊥) → PrefixFault t claim allowed prefix n (Nearer path)
  exists : (path : ArrayVec ℕ) → path.items ≡ prefix → IsNone claim → IsComplete t prefix → (IsNoBetter t claim prefix → ⊥) → PrefixFault t claim allowed prefix n (Exists path)
  many : IsIncomplete t prefix → n ≡ allowed → PrefixFault t claim allowed prefix n MoreExpanded

record StopAt (t : Problem) (claim : Option (List ℕ)) (cuts : List (List ℕ)) (allowed : ℕ) (reason : Reject) : Type 0 where
  pub prefix : List ℕ
  pub n : ℕ
  pub reached : IsReached t claim cuts allowed prefix n
  pub fault : PrefixFault t claim allowed prefix n reason

stop-at : (t : Problem) (claim : Option (List ℕ)) (cuts : List (List ℕ)) (allowed : ℕ) (reason : Reject) → PrefixFails t claim cuts allowed reason → StopAt t claim cuts allowed reason
stop-at t claim cuts allowed NotAPlacement fails = absurd fails
stop-at t claim cuts allowed (CutOrder at) fails = absurd fails
stop-at t claim cuts allowed (CutNotViable at) fails = absurd fails
stop-at t claim cuts allowed (CutWeak at) fails = absurd fails
stop-at t claim cuts allowed (Nearer path) fails =
    record { prefix = path.items; n = fails.1.0; reached = fails.1.1; fault = nearer path refl fails.0 fails.1.2 fails.1.3 }
stop-at t claim cuts allowed (Exists path) fails =
    record { prefix = path.items; n = fails.1.0; reached = fails.1.1; fault = exists path refl fails.0 fails.1.2 fails.1.3 }
stop-at t claim cuts allowed MoreExpanded fails = record { prefix = fails.0; n = allowed; reached = fails.1; fault = many fails.2 refl }

-- a prefix that fails does not pass before another
fails-not_before : (t : Problem) (claim : Option (List ℕ)) (cuts : List (List ℕ)) (allowed : ℕ) (p q : List ℕ) (m n : ℕ) (reason : Reject) → PrefixFault t claim allowed p m reason
    → IsReached t claim cuts allowed p m → IsReached t claim cuts allowed q n → IsBefore p q → ⊥
fails-not_before t claim cuts allowed p q m n _ (nearer path is some complete better) here there before = better (there.before.no_better p here.viable here.uncut complete before)
fails-not_before t claim cuts allowed p q m n _ (exists path is none complete better) here there before = better (there.before.no_better p here.viable here.uncut complete before)
fails-not_before t claim cuts allowed p q m n _ (many incomplete spent) here there before =
    let earlier = here.before.expanded in
    let own : IsExpanded t cuts p × IsBefore p q = (record { viable = here.viable; incomplete = incomplete; uncut = here.uncut }, before) in
    let differ : All (λ x. p ≢ x) earlier.lists = All-weaker (λ x. IsExpanded t cuts x × IsBefore x p) (λ x. p ≢ x)
    (λ x both same. IsBefore-not_itself p (subst (λ y. IsBefore y p) (sym same) both.1)) earlier.lists earlier.of_kind in
    let each : All (λ x. IsExpanded t cuts x × IsBefore x q) earlier.lists = All-weaker (λ x. IsExpanded t cuts x × IsBefore x p) (λ x. IsExpanded t cuts x × IsBefore x q)
    (λ x both. (both.0, IsBefore-trans x p q both.1 before)) earlier.lists earlier.of_kind in
    let most = AreExactly-most (λ x. IsExpanded t cuts x × IsBefore x q) n there.before.expanded (p ∷ earlier.lists)
    (AllPairs-cons (λ x y. x ≢ y) p earlier.lists differ earlier.different)
    (All-cons (λ x. IsExpanded t cuts x × IsBefore x q) p earlier.lists own each) in
    omega (arith, most, earlier.number, spent, there.few)

-- of two lists one comes before the other, or they are the same
before-or_same : (a b : List ℕ) → IsBefore a b ⊎ ((a ≡ b) ⊎ IsBefore b a)
before-or_same a b = cases (slice_cmp nat_cmp a b) refl
  where
    cases : (o : Ordering) → slice_cmp nat_cmp a b ≡ o → IsBefore a b ⊎ ((a ≡ b) ⊎ IsBefore b a)
    cases Less is = inl is
    cases Equal is = inr (inl (slice_cmp_equal a b is))
    cases Greater is = inr (inr (nat_list_cmp_total.antisymm b a ∙ ap ordering_reverse is))

same-path : (p q : ArrayVec ℕ) → p.items ≡ q.items → p ≡ q
same-path p q is = ap (λ xs. record { items = xs }) is

some-not_none : (claim : Option (List ℕ)) → IsSome claim → IsNone claim → ⊥
some-not_none claim some none = false≢true (sym none ∙ some)

-- a prefix fails in one way
one-way : (t : Problem) (claim : Option (List ℕ)) (allowed : ℕ) (p : List ℕ) (m n : ℕ) (a b : Reject) → PrefixFault t claim allowed p m a → PrefixFault t claim allowed p n b → a ≡ b
one-way t claim allowed p m n _ _ (nearer path is some complete better) (nearer other also _ _ _) = ap (λ (x : ArrayVec ℕ). Nearer x) (same-path path other (is ∙ sym also))
one-way t claim allowed p m n _ _ (nearer path is some complete better) (exists other also none _ _) = absurd (some-not_none claim some none)
one-way t claim allowed p m n _ _ (nearer path is some complete better) (many incomplete spent) = absurd (omega (arith, incomplete, complete))
one-way t claim allowed p m n _ _ (exists path is none complete better) (nearer other also some _ _) = absurd (some-not_none claim some none)
one-way t claim allowed p m n _ _ (exists path is none complete better) (exists other also _ _ _) = ap (λ (x : ArrayVec ℕ). Exists x) (same-path path other (is ∙ sym also))
one-way t claim allowed p m n _ _ (exists path is none complete better) (many incomplete spent) = absurd (omega (arith, incomplete, complete))
one-way t claim allowed p m n _ _ (many incomplete spent) (nearer other also some complete _) = absurd (omega (arith, incomplete, complete))
one-way t claim allowed p m n _ _ (many incomplete spent) (exists other also none complete _) = absurd (omega (arith, incomplete, complete))
one-way t claim allowed p m n _ _ (many incomplete spent) (many also second) = refl

one-prefix : (t : Problem) (claim : Option (List ℕ)) (cuts : List (List ℕ)) (allowed : ℕ) (a b : Reject) → StopAt t claim cuts allowed a → StopAt t claim cuts allowed b → a ≡ b
one-prefix t claim cuts allowed a b first second = ⊎_elim
    (λ before. absurd (fails-not_before t claim cuts allowed first.prefix second.prefix first.n second.n a first.fault first.reached second.reached before))
    (λ rest. ⊎_elim
    (λ same. one-way t claim allowed second.prefix first.n second.n a b (subst (λ p. PrefixFault t claim allowed p first.n a) same first.fault) second.fault)
    (λ before. absurd (fails-not_before t claim cuts allowed second.prefix first.prefix second.n first.n b second.fault second.reached first.reached before))
    rest)
    (before-or_same first.prefix second.prefix)

-- what the cuts leave has one first fault
pub one-prefix_fault : (t : Problem) (claim : Option (List ℕ)) (cuts : List (List ℕ)) (allowed : ℕ) (a b : Reject) → PrefixFails t claim cuts allowed a → PrefixFails t claim cuts allowed b → a ≡ b
one-prefix_fault t claim cuts allowed a b first second = one-prefix t claim cuts allowed a b (stop-at t claim cuts allowed a first) (stop-at t claim cuts allowed b second)

-- All together ----------------------------------------------------------------------------------

cut-not_held : (t : Problem) (claim : Option (List ℕ)) (cuts : List (List ℕ)) (reason : Reject) → CutFails t claim cuts reason → CutsHold t claim cuts → ⊥
cut-not_held t claim cuts reason fails hold =
    let first = fault-at t claim cuts reason fails in
    fault-not_held t claim cuts first.at first.cut reason first.fault (held t claim cuts first.at first.cut hold first.tested.stands)

-- two first reasons against a certificate are the same
pub one-reason : (t : Problem) (claim : Option (List ℕ)) (cuts : List (List ℕ)) (expanded : ℕ) (a b : Reject) → IsFirstReason t claim cuts expanded a → IsFirstReason t claim cuts expanded b → a ≡ b
one-reason t claim cuts expanded a b first second = ⊎_elim
    (λ one. ⊎_elim
    (λ other. one.1 ∙ sym other.1)
    (λ other. absurd (one.0 other.0))
    second)
    (λ one. ⊎_elim
    (λ other. absurd (other.0 one.0))
    (λ other. ⊎_elim
    (λ cut. ⊎_elim
    (λ also. one-cut t claim cuts a b (fault-at t claim cuts a cut) (fault-at t claim cuts b also))
    (λ prefix. absurd (cut-not_held t claim cuts a cut prefix.0))
    other.1)
    (λ prefix. ⊎_elim
    (λ cut. absurd (cut-not_held t claim cuts b cut prefix.0))
    (λ also. one-prefix_fault t claim cuts expanded a b prefix.1 also.1)
    other.1)
    one.1)
    second)
    first
