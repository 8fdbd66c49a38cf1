-- which cuts a walk has met when it comes to a prefix
use Rattle.std.proofs.Common.{refl, ◌≡◌, ◌⊎◌, inl, inr, ⊎_elim, ℕ, zero, suc, ◌+◌, ◌<◌, ◌≤◌, List, [], ◌∷◌, ◌++◌, length, get_or, Some, sym, ap, ◌∙◌, subst, arith, append-nil, below_more}
use Rattle.std.proofs.lemmas.Bool.Decides.{leb_tells}
use Rattle.std.proofs.lemmas.Option.{slice_get-get_or, get_or_from_slice_get}
use Rattle.std.proofs.lemmas.List.Elements.{All-contains, Contains-push}
use Rattle.std.specs.Prelude.{All, AllPairs, slice_get}
use Rattle.base_words.specs.Lists.{Extends}
use Rattle.hold_limits.specs.Problem.{Problem}
use Rattle.hold_limits.specs.Placement.{IsSound}
use Rattle.hold_limits.proofs.SoundLemmas.{IsSound-extends, IsSound-within, Extends-next, Extends-whole}
use Rattle.hold_reach.specs.Reach.{IsViable}
use Rattle.certificate.specs.Good.{IsBefore, IsUncut, AreInOrder}
use Rattle.cert_checker.specs.FirstReason.{IsComplete}
use Rattle.cert_checker.specs.Steps.{AreFirst}
use Rattle.cert_checker.proofs.PathOrder.{none-before_nil, IsBefore-not_itself, IsBefore-trans, before-next, before-extension, before_longer-cases, before_next-cases, before_zero-cases, Extends-push_cases}
use Rattle.cert_checker.proofs.ViableFronts.{IsViable-extends}

pub Extends-itself : (front : List ℕ) → Extends front front
Extends-itself front = ([], sym (append-nil front))

less_or_same : (m n : ℕ) → m < n + 1 → (m < n) ⊎ (m ≡ n)
less_or_same m n less = below_more (λ k. (k < n) ⊎ (k ≡ n)) n (λ k below. inl below) (inr refl) m less

pub less_same_or_more : (m n : ℕ) → (m < n) ⊎ ((m ≡ n) ⊎ (n < m))
less_same_or_more m n = ⊎_elim
    (λ upto. ⊎_elim (λ below. inl below) (λ same. inr (inl same)) (less_or_same m n (omega (arith, upto.1))))
    (λ more. inr (inr more.1))
    (leb_tells m n)

-- a sound list that begins with a front is the front, or goes on with the number of a position
pub same-or_next : (t : Problem) (front p : List ℕ) → IsSound t p → Extends front p → (p ≡ front) ⊎ ((q : ℕ) × (q < length t.hold.positions) × Extends (front ++ q ∷ []) p)
same-or_next t front p sound extends = ⊎_elim
    (λ whole. inl (Extends-whole front p extends whole.1))
    (λ shorter. inr (next shorter.1))
    (leb_tells (length p) (length front))
  where
    next : length front < length p → (q : ℕ) × (q < length t.hold.positions) × Extends (front ++ q ∷ []) p
    next shorter =
        let more = Extends-next front p extends shorter in
        let begins : IsSound t (front ++ more.0 ∷ []) = IsSound-extends t (front ++ more.0 ∷ []) p more.1 sound in
        (more.0, All-contains (λ q. q < length t.hold.positions) (front ++ more.0 ∷ []) more.0 (IsSound-within t (front ++ more.0 ∷ []) begins) (Contains-push front more.0), more.1)

-- where two kinds are the same for each cut
AreFirst-same : (cuts : List (List ℕ)) (n : ℕ) (P A B : List ℕ → Type 0) → All P cuts → ((cut : List ℕ) → P cut → A cut → B cut) → ((cut : List ℕ) → P cut → B cut → A cut)
    → AreFirst cuts n A → AreFirst cuts n B
AreFirst-same cuts n P A B all to from first at d within = (
  λ earlier. to (get_or cuts at d) (all at d within) ((first at d within).0 earlier),
  λ later kind. (first at d within).1 later (from (get_or cuts at d) (all at d within) kind),
)

-- a front with a number, and what begins with it, come before it with the next number
next-number : (front c : List ℕ) (q : ℕ) → IsBefore c (front ++ q ∷ []) ⊎ Extends (front ++ q ∷ []) c → IsBefore c (front ++ (q + 1) ∷ [])
next-number front c q either = ⊎_elim
    (λ earlier. IsBefore-trans c (front ++ q ∷ []) (front ++ (q + 1) ∷ []) earlier
    (before-next front (front ++ q ∷ []) (front ++ (q + 1) ∷ []) q (q + 1) (Extends-itself (front ++ q ∷ [])) (Extends-itself (front ++ (q + 1) ∷ [])) (omega arith)))
    (λ extends. before-next front c (front ++ (q + 1) ∷ []) q (q + 1) extends (Extends-itself (front ++ (q + 1) ∷ [])) (omega arith))
    either

-- before the first number: the front is no cut
pub met-first : (cuts : List (List ℕ)) (n : ℕ) (front : List ℕ) → IsUncut cuts front → AreFirst cuts n (λ cut. IsBefore cut front) → AreFirst cuts n (λ cut. IsBefore cut (front ++ 0 ∷ []))
met-first cuts n front uncut first = AreFirst-same cuts n (λ cut. Extends cut front → ⊥) (λ cut. IsBefore cut front) (λ cut. IsBefore cut (front ++ 0 ∷ [])) uncut
    (λ cut not earlier. IsBefore-trans cut front (front ++ 0 ∷ []) earlier (before-extension front 0 []))
    (λ cut not earlier. ⊎_elim
    (λ before. before)
    (λ same. absurd (not (subst (λ c. Extends c front) (sym same) (Extends-itself front))))
    (before_zero-cases front cut earlier))
    first

-- after a number that begins no viable prefix
pub met-passed : (t : Problem) (cuts : List (List ℕ)) (n : ℕ) (front : List ℕ) (q : ℕ) → All (IsViable t) cuts → (IsViable t (front ++ q ∷ []) → ⊥)
    → AreFirst cuts n (λ cut. IsBefore cut (front ++ q ∷ [])) → AreFirst cuts n (λ cut. IsBefore cut (front ++ (q + 1) ∷ []))
met-passed t cuts n front q viable not first = AreFirst-same cuts n (IsViable t) (λ cut. IsBefore cut (front ++ q ∷ [])) (λ cut. IsBefore cut (front ++ (q + 1) ∷ [])) viable
    (λ cut can earlier. next-number front cut q (inl earlier))
    (λ cut can earlier. ⊎_elim
    (λ before. before)
    (λ extends. absurd (not (IsViable-extends t (front ++ q ∷ []) cut extends can)))
    (before_next-cases front cut q earlier))
    first

-- after a number whose prefixes were passed
pub met-next : (t : Problem) (cuts : List (List ℕ)) (n : ℕ) (front : List ℕ) (q : ℕ) → All (IsViable t) cuts
    → AreFirst cuts n (λ cut. IsBefore cut (front ++ q ∷ []) ⊎ Extends (front ++ q ∷ []) cut) → AreFirst cuts n (λ cut. IsBefore cut (front ++ (q + 1) ∷ []))
met-next t cuts n front q viable first =
    AreFirst-same cuts n (IsViable t) (λ cut. IsBefore cut (front ++ q ∷ []) ⊎ Extends (front ++ q ∷ []) cut) (λ cut. IsBefore cut (front ++ (q + 1) ∷ [])) viable
    (λ cut can either. next-number front cut q either)
    (λ cut can earlier. before_next-cases front cut q earlier)
    first

-- after a number with which the front is a cut
pub met-cut : (cuts : List (List ℕ)) (n : ℕ) (front : List ℕ) (q : ℕ) → AllPairs AreInOrder cuts → n < length cuts → slice_get cuts n ≡ Some (front ++ q ∷ [])
    → AreFirst cuts n (λ cut. IsBefore cut (front ++ q ∷ [])) → AreFirst cuts (n + 1) (λ cut. IsBefore cut (front ++ (q + 1) ∷ []))
met-cut cuts n front q rising inside is first at d within = (
  λ earlier. below_or_here at earlier,
  λ later kind. ⊎_elim
      (λ before. (first at d within).1 (omega arith) before)
      (λ extends. (rising n at d (omega arith) within).apart (subst (λ c. Extends c (get_or cuts at d)) (sym (here n refl)) extends))
      (before_next-cases front (get_or cuts at d) q kind),
)
  where
    here : (k : ℕ) → k ≡ n → get_or cuts k d ≡ front ++ q ∷ []
    here k same = get_or_from_slice_get cuts k (front ++ q ∷ []) d (subst (λ m. slice_get cuts m ≡ Some (front ++ q ∷ [])) (sym same) is)

    below_or_here : (k : ℕ) → at < n + 1 → IsBefore (get_or cuts at d) (front ++ (q + 1) ∷ [])
    below_or_here k earlier = ⊎_elim
        (λ less. next-number front (get_or cuts at d) q (inl ((first at d within).0 less)))
        (λ same. next-number front (get_or cuts at d) q (inr (subst (λ c. Extends (front ++ q ∷ []) c) (sym (here at same)) (Extends-itself (front ++ q ∷ [])))))
        (less_or_same at n earlier)

-- after the last number
pub met-last : (t : Problem) (cuts : List (List ℕ)) (n : ℕ) (front : List ℕ) (q : ℕ) → length t.hold.positions ≤ q → All (IsViable t) cuts
    → AreFirst cuts n (λ cut. IsBefore cut (front ++ q ∷ [])) → AreFirst cuts n (λ cut. IsBefore cut front ⊎ Extends front cut)
met-last t cuts n front q all viable first = AreFirst-same cuts n (IsViable t) (λ cut. IsBefore cut (front ++ q ∷ [])) (λ cut. IsBefore cut front ⊎ Extends front cut) viable
    (λ cut can earlier. before_longer-cases front cut q earlier)
    (λ cut can either. ⊎_elim
    (λ earlier. IsBefore-trans cut front (front ++ q ∷ []) earlier (before-extension front q []))
    (λ extends. ⊎_elim
    (λ same. subst (λ c. IsBefore c (front ++ q ∷ [])) (sym same) (before-extension front q []))
    (λ next. before-next front cut (front ++ q ∷ []) next.0 q next.2 (Extends-itself (front ++ q ∷ [])) (omega (arith, next.1)))
    (same-or_next t front cut can.sound extends))
    either)
    first

-- where no cut begins with the front
pub met-none : (cuts : List (List ℕ)) (n : ℕ) (front : List ℕ) (P : List ℕ → Type 0) → All P cuts → ((cut : List ℕ) → P cut → Extends front cut → ⊥)
    → AreFirst cuts n (λ cut. IsBefore cut front) → AreFirst cuts n (λ cut. IsBefore cut front ⊎ Extends front cut)
met-none cuts n front P all none first = AreFirst-same cuts n P (λ cut. IsBefore cut front) (λ cut. IsBefore cut front ⊎ Extends front cut) all
    (λ cut is earlier. inl earlier)
    (λ cut is either. ⊎_elim (λ earlier. earlier) (λ extends. absurd (none cut is extends)) either)
    first

-- where the front is complete and begins with no cut
pub met-complete : (t : Problem) (cuts : List (List ℕ)) (n : ℕ) (front : List ℕ) → IsComplete t front → All (IsViable t) cuts → IsUncut cuts front
    → AreFirst cuts n (λ cut. IsBefore cut front) → AreFirst cuts n (λ cut. IsBefore cut front ⊎ Extends front cut)
met-complete t cuts n front complete viable uncut first = met-none cuts n front (λ cut. IsViable t cut × (Extends cut front → ⊥))
    (λ at d within. (viable at d within, uncut at d within))
    (λ cut both extends.
    let same : cut ≡ front = Extends-whole front cut extends (omega (arith, complete, both.0.sound.short)) in
    both.1 (subst (λ c. Extends c front) (sym same) (Extends-itself front)))
    first

-- a front with a number that is not the next cut begins with no cut
pub uncut-next : (cuts : List (List ℕ)) (n : ℕ) (front : List ℕ) (q : ℕ) → AllPairs AreInOrder cuts → IsUncut cuts front
    → AreFirst cuts n (λ cut. IsBefore cut (front ++ q ∷ [])) → (slice_get cuts n ≡ Some (front ++ q ∷ []) → ⊥) → IsUncut cuts (front ++ q ∷ [])
uncut-next cuts n front q rising uncut first not at d within extends = ⊎_elim
    (λ same. where_it_is same (less_same_or_more at n))
    (λ shorter. uncut at d within shorter)
    (Extends-push_cases (get_or cuts at d) front q extends)
  where
    where_it_is : get_or cuts at d ≡ front ++ q ∷ [] → (at < n) ⊎ ((at ≡ n) ⊎ (n < at)) → ⊥
    where_it_is same cases = ⊎_elim
        (λ less. IsBefore-not_itself (front ++ q ∷ []) (subst (λ c. IsBefore c (front ++ q ∷ [])) same ((first at d within).0 less)))
        (λ rest. ⊎_elim
        (λ here. not (subst (λ m. slice_get cuts m ≡ Some (front ++ q ∷ [])) here (slice_get-get_or cuts at d within ∙ ap (λ c. Some c) same)))
        (λ more. (first n d (omega arith)).1 (omega arith) (subst (IsBefore (get_or cuts n d)) same ((rising n at d more within).before)))
        rest)
        cases

-- where the first cut is not the empty prefix, no cut is
pub uncut-empty : (cuts : List (List ℕ)) → AllPairs AreInOrder cuts → (slice_get cuts 0 ≡ Some [] → ⊥) → IsUncut cuts []
uncut-empty cuts rising not at d within extends = where_it_is at within (nothing (get_or cuts at d) extends)
  where
    nothing : (xs : List ℕ) → Extends xs [] → xs ≡ []
    nothing [] none = refl
    nothing (x ∷ xs) none = absurd (let is : [] ≡ x ∷ (xs ++ none.0) = none.1 in cc)

    where_it_is : (k : ℕ) → k < length cuts → get_or cuts k d ≡ [] → ⊥
    where_it_is zero inside empty = not (slice_get-get_or cuts 0 d inside ∙ ap (λ c. Some c) empty)
    where_it_is (suc k) inside empty = none-before_nil (get_or cuts 0 d) (subst (IsBefore (get_or cuts 0 d)) empty (rising 0 (suc k) d (omega arith) inside).before)

-- no cut comes before the empty prefix
pub met-empty : (cuts : List (List ℕ)) → AreFirst cuts 0 (λ cut. IsBefore cut [])
met-empty cuts at d within = (λ none. absurd (omega (arith, none)), λ _ before. none-before_nil (get_or cuts at d) before)
