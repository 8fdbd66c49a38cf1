-- what a best-first search knows between its steps
use Rattle.std.proofs.Common.{◌≡◌, ◌≢◌, ⊎_elim, ℕ, ◌+◌, ◌<◌, ◌≤◌, List, [], ◌∷◌, ◌++◌, sym, ap₂, ◌∙◌, subst, arith, append_assoc, below_more}
use Rattle.std.proofs.lemmas.List.{map-append}
use Rattle.std.proofs.lemmas.List.Elements.{All-nil, All-cons, All-head, All-tail, All-append, All-contains, All-weaker, Contains-append_left, Contains-append_right, Contains-append_cases}
use Rattle.std.proofs.lemmas.List.Kept.{AllPairs-cons}
use Rattle.std.proofs.lemmas.List.Sorted.{IsPermutation-refl, IsPermutation-sym, IsPermutation-trans, IsPermutation-cons, IsPermutation-map, IsPermutation-append_left, IsPermutation-append_right, IsPermutation-append_comm, IsPermutation-middle, All-permutation, Contains-permutation}
use Rattle.std.specs.Prelude.{All, AllPairs, Contains, IsPermutation}
use Rattle.hold_limits.specs.Placement.{Key, IsAtMost}
use Rattle.hold_limits.proofs.KeyOrder.{IsAtMost-refl, IsAtMost-trans}
use Rattle.path_search.specs.Keys.{prefixes}
use Rattle.path_search.specs.Promising.{HasNoBound}
use Rattle.path_search.specs.Search.{IsWaiting, IsNext, AreChildren, AddsChildren, known, IsSearched}
use Rattle.path_search.specs.Worlds.{World, IsIncompleteIn, IsSearchable}
use Rattle.path_search.proofs.CountLemmas.{Contains-cons, Contains-later, Contains-cons_cases, Contains-nil, AllPairs-append, All-from_contains, apart-append, different-permutation, last-same}
use Rattle.path_search.proofs.BoundLemmas.{at_most-extension, at_most-more}

pub Contains-prefixes : (keys : List Key) (k : Key) → Contains keys k → Contains (prefixes keys) k.1
Contains-prefixes keys k inside = All-contains (λ (e : Key). Contains (prefixes keys) e.1) keys k (each keys) inside
  where
    each : (keys : List Key) → All (λ (e : Key). Contains (prefixes keys) e.1) keys
    each [] = All-nil (λ (e : Key). Contains [] e.1)
    each (e ∷ keys) = All-cons (λ (f : Key). Contains (prefixes (e ∷ keys)) f.1) e keys (Contains-cons e.1 (prefixes keys))
        (All-weaker (λ (f : Key). Contains (prefixes keys) f.1) (λ (f : Key). Contains (prefixes (e ∷ keys)) f.1) (λ f. Contains-later e.1 (prefixes keys) f.1) keys (each keys))

-- the key of a prefix that is among those of the keys
pub key-of_prefix : (keys : List Key) (p : List ℕ) → Contains (prefixes keys) p → (k : Key) × Contains keys k × (k.1 ≡ p)
key-of_prefix [] p inside = absurd (Contains-nil p inside)
key-of_prefix (e ∷ keys) p inside = ⊎_elim
    (λ (is : e.1 ≡ p). (e, Contains-cons e keys, is))
    (λ (later : Contains (prefixes keys) p).
    let found = key-of_prefix keys p later in
    (found.0, Contains-later e keys found.0 found.1, found.2))
    (Contains-cons_cases e.1 (prefixes keys) p inside)

-- Children --------------------------------------------------------------------------------------

next-more : (front : List ℕ) (number : ℕ) (p : List ℕ) → IsNext front number p → IsNext front (number + 1) p
next-more front number p next = (next.0, omega (arith, next.1), next.2)

-- the front with this number is none of the earlier children
apart-next : (front : List ℕ) (number : ℕ) (p : List ℕ) (others : List (List ℕ)) → p ≡ front ++ number ∷ [] → All (IsNext front number) others → All (λ q. p ≢ q) others
apart-next front number p others is next = All-weaker (IsNext front number) (λ q. p ≢ q)
    (λ q of_front same. absurd (omega (arith, of_front.1, (last-same front front number of_front.0 (sym is ∙ same ∙ of_front.2)).1)))
    others next

module _ (w : World) (MayWait : List ℕ → ℕ → Type 0) (front : List ℕ) (bound : ℕ) where
  AreChildren-none : AreChildren w MayWait front bound 0 []
  AreChildren-none = record {
    waiting = All-nil (IsWaiting MayWait);
    later = All-nil (λ (k : Key). bound ≤ k.0);
    next = All-nil (IsNext front 0);
    different = λ i j d before within. absurd (omega arith);
    every = λ q below. absurd (omega arith);
  }

  -- a number with which the front is not viable
  AreChildren-passed : (number : ℕ) (children : List Key) → (w.IsViable (front ++ number ∷ []) → ⊥) → AreChildren w MayWait front bound number children → AreChildren w MayWait front bound (number + 1) children
  AreChildren-passed number children not are = record {
    waiting = are.waiting;
    later = are.later;
    next = All-weaker (IsNext front number) (IsNext front (number + 1)) (next-more front number) (prefixes children) are.next;
    different = are.different;
    every = below_more (λ q. w.IsViable (front ++ q ∷ []) → Contains (prefixes children) (front ++ q ∷ [])) number are.every (λ viable. absurd (not viable));
  }

  -- a number with which it may wait with so many ticks
  AreChildren-added : (number : ℕ) (children : List Key) (k : Key) → IsWaiting MayWait k → bound ≤ k.0 → k.1 ≡ front ++ number ∷ [] → AreChildren w MayWait front bound number children
      → AreChildren w MayWait front bound (number + 1) (k ∷ children)
  AreChildren-added number children k waits later is are =
      let others = prefixes children in
      record {
        waiting = All-cons (IsWaiting MayWait) k children waits are.waiting;
        later = All-cons (λ (e : Key). bound ≤ e.0) k children later are.later;
        next = All-cons (IsNext front (number + 1)) k.1 others (number, omega arith, is)
            (All-weaker (IsNext front number) (IsNext front (number + 1)) (next-more front number) others are.next);
        different = AllPairs-cons (λ p q. p ≢ q) k.1 others (apart-next front number k.1 others is are.next) are.different;
        every = below_more (λ q. w.IsViable (front ++ q ∷ []) → Contains (k.1 ∷ others) (front ++ q ∷ [])) number
            (λ q below one. Contains-later k.1 others (front ++ q ∷ []) (are.every q below one))
            (λ one. subst (λ p. Contains (k.1 ∷ others) p) is (Contains-cons k.1 others));
      }

  pub AddsChildren-none : (queue : List Key) → AddsChildren w MayWait front bound 0 queue queue
  AddsChildren-none queue = record {
    children = [];
    are = AreChildren-none;
    added = IsPermutation-refl queue;
  }

  pub AddsChildren-passed : (number : ℕ) (old new : List Key) → (w.IsViable (front ++ number ∷ []) → ⊥) → AddsChildren w MayWait front bound number old new → AddsChildren w MayWait front bound (number + 1) old new
  AddsChildren-passed number old new not adds = record {
    children = adds.children;
    are = AreChildren-passed number adds.children not adds.are;
    added = adds.added;
  }

  pub AddsChildren-added : (number : ℕ) (old mid new : List Key) (k : Key) → IsWaiting MayWait k → bound ≤ k.0 → k.1 ≡ front ++ number ∷ [] → IsPermutation (k ∷ mid) new → AddsChildren w MayWait front bound number old mid
      → AddsChildren w MayWait front bound (number + 1) old new
  AddsChildren-added number old mid new k waits later is added adds = record {
    children = k ∷ adds.children;
    are = AreChildren-added number adds.children k waits later is adds.are;
    added = IsPermutation-trans (k ∷ (adds.children ++ old)) (k ∷ mid) new (IsPermutation-cons k (adds.children ++ old) mid adds.added) added;
  }

-- What is known ---------------------------------------------------------------------------------

-- what is taken or waits before the least is taken, with its children, is what is taken or waits then
waiting-next : (taken : List (List ℕ)) (queue rest children new : List Key) (k : Key) → IsPermutation queue (k ∷ rest) → IsPermutation (children ++ rest) new
    → IsPermutation (prefixes children ++ (taken ++ prefixes queue)) ((k.1 ∷ taken) ++ prefixes new)
waiting-next taken queue rest children new k moved added =
    let first : IsPermutation (prefixes queue) (k.1 ∷ prefixes rest) = IsPermutation-map (λ (e : Key). e.1) queue (k ∷ rest) moved in
    let last : IsPermutation (prefixes (children ++ rest)) (prefixes new) = IsPermutation-map (λ (e : Key). e.1) (children ++ rest) new added in
    let split : prefixes (children ++ rest) ≡ prefixes children ++ prefixes rest = map-append (λ (e : Key). e.1) children rest in
    let one : IsPermutation (taken ++ prefixes queue) (k.1 ∷ (taken ++ prefixes rest)) =
    IsPermutation-trans (taken ++ prefixes queue) (taken ++ k.1 ∷ prefixes rest) (k.1 ∷ (taken ++ prefixes rest))
    (IsPermutation-append_right taken (prefixes queue) (k.1 ∷ prefixes rest) first)
    (IsPermutation-middle taken k.1 (prefixes rest)) in
    let two : IsPermutation (prefixes children ++ (taken ++ prefixes queue)) (prefixes children ++ k.1 ∷ (taken ++ prefixes rest)) =
    IsPermutation-append_right (prefixes children) (taken ++ prefixes queue) (k.1 ∷ (taken ++ prefixes rest)) one in
    let three : IsPermutation (prefixes children ++ k.1 ∷ (taken ++ prefixes rest)) (k.1 ∷ (prefixes children ++ (taken ++ prefixes rest))) =
    IsPermutation-middle (prefixes children) k.1 (taken ++ prefixes rest) in
    let turned : IsPermutation (prefixes children ++ (taken ++ prefixes rest)) (taken ++ (prefixes children ++ prefixes rest)) =
    subst (λ xs. IsPermutation xs (taken ++ (prefixes children ++ prefixes rest))) (append_assoc (prefixes children) taken (prefixes rest))
    (subst (λ xs. IsPermutation ((prefixes children ++ taken) ++ prefixes rest) xs) (append_assoc taken (prefixes children) (prefixes rest))
    (IsPermutation-append_left (prefixes rest) (prefixes children ++ taken) (taken ++ prefixes children) (IsPermutation-append_comm (prefixes children) taken))) in
    let four : IsPermutation (taken ++ (prefixes children ++ prefixes rest)) (taken ++ prefixes new) =
    IsPermutation-append_right taken (prefixes children ++ prefixes rest) (prefixes new) (subst (λ xs. IsPermutation xs (prefixes new)) split last) in
    IsPermutation-trans _ _ _ two
    (IsPermutation-trans _ _ _ three
    (IsPermutation-cons k.1 _ _ (IsPermutation-trans _ _ _ turned four)))

-- the same of all that is known
known-next : (taken : List (List ℕ)) (queue rest children new : List Key) (turned : List (List ℕ)) (k : Key) → IsPermutation queue (k ∷ rest) → IsPermutation (children ++ rest) new
    → IsPermutation (prefixes children ++ known taken queue turned) (known (k.1 ∷ taken) new turned)
known-next taken queue rest children new turned k moved added =
    subst (λ xs. IsPermutation xs (known (k.1 ∷ taken) new turned)) (append_assoc (prefixes children) (taken ++ prefixes queue) turned)
    (IsPermutation-append_left turned (prefixes children ++ (taken ++ prefixes queue)) ((k.1 ∷ taken) ++ prefixes new) (waiting-next taken queue rest children new k moved added))

-- as much is known with another queue of the same prefixes
known-later : (taken : List (List ℕ)) (queue new : List Key) (turned : List (List ℕ)) → IsPermutation (prefixes queue) (prefixes new) → IsPermutation (known taken queue turned) (known taken new turned)
known-later taken queue new turned moved = IsPermutation-append_left turned (taken ++ prefixes queue) (taken ++ prefixes new) (IsPermutation-append_right taken (prefixes queue) (prefixes new) moved)

-- as much is known where a prefix that waited is noted
known-noted : (taken : List (List ℕ)) (queue rest : List Key) (turned : List (List ℕ)) (k : Key) → IsPermutation queue (k ∷ rest) → IsPermutation (known taken queue turned) (known taken rest (turned ++ k.1 ∷ []))
known-noted taken queue rest turned k moved =
    let first : IsPermutation (known taken queue turned) ((taken ++ k.1 ∷ prefixes rest) ++ turned) =
    IsPermutation-append_left turned (taken ++ prefixes queue) (taken ++ k.1 ∷ prefixes rest)
    (IsPermutation-append_right taken (prefixes queue) (k.1 ∷ prefixes rest) (IsPermutation-map (λ (e : Key). e.1) queue (k ∷ rest) moved)) in
    let second : IsPermutation ((taken ++ k.1 ∷ prefixes rest) ++ turned) (k.1 ∷ ((taken ++ prefixes rest) ++ turned)) =
    IsPermutation-append_left turned (taken ++ k.1 ∷ prefixes rest) (k.1 ∷ (taken ++ prefixes rest)) (IsPermutation-middle taken k.1 (prefixes rest)) in
    let third : IsPermutation (k.1 ∷ ((taken ++ prefixes rest) ++ turned)) (((taken ++ prefixes rest) ++ turned) ++ k.1 ∷ []) =
    IsPermutation-append_comm (k.1 ∷ []) ((taken ++ prefixes rest) ++ turned) in
    subst (IsPermutation (known taken queue turned)) (append_assoc (taken ++ prefixes rest) turned (k.1 ∷ []))
    (IsPermutation-trans _ _ _ first (IsPermutation-trans _ _ _ second third))

-- At the start ----------------------------------------------------------------------------------

module _ (w : World) (MayWait : List ℕ → ℕ → Type 0) where
  pub IsSearched-empty : (w.IsViable [] → ⊥) → IsSearched w MayWait [] [] []
  IsSearched-empty not = record {
    bounded = All-nil (λ p. (b : ℕ) × w.HasBound p b);
    waiting = All-nil (IsWaiting MayWait);
    none = All-nil (HasNoBound w);
    different = λ i j d before within. absurd (omega arith);
    incomplete = All-nil (IsIncompleteIn w);
    least = λ prefix b inside is. absurd (Contains-nil prefix inside);
    begun = λ viable. absurd (not viable);
    children = λ prefix q inside viable. absurd (Contains-nil prefix inside);
    parents = λ prefix q inside. absurd (Contains-nil (prefix ++ q ∷ []) inside);
  }

-- Until a prefix waits with its own bound -------------------------------------------------------

module _ (w : World) (MayWait : List ℕ → ℕ → Type 0) where
  -- the same prefixes are known with another queue, and with others noted
  known-again : (taken : List (List ℕ)) (queue new : List Key) (before after : List (List ℕ)) → IsPermutation (known taken queue before) (known taken new after) → All (IsWaiting MayWait) new → All (HasNoBound w) after
      → ((prefix : List ℕ) (b : ℕ) → Contains taken prefix → w.HasBound prefix b → All (λ e. IsAtMost (b, prefix) e) new) → IsSearched w MayWait taken queue before → IsSearched w MayWait taken new after
  known-again taken queue new before after moved waiting none least searched = record {
    bounded = searched.bounded;
    waiting = waiting;
    none = none;
    different = different-permutation (known taken queue before) (known taken new after) moved searched.different;
    incomplete = searched.incomplete;
    least = least;
    begun = λ viable. still [] (searched.begun viable);
    children = λ prefix q inside viable. still (prefix ++ q ∷ []) (searched.children prefix q inside viable);
    parents = λ prefix q inside. searched.parents prefix q
        (Contains-permutation (known taken new after) (known taken queue before) (prefix ++ q ∷ []) (IsPermutation-sym (known taken queue before) (known taken new after) moved) inside);
  }
    where
      still : (p : List ℕ) → Contains (known taken queue before) p → Contains (known taken new after) p
      still p inside = Contains-permutation (known taken queue before) (known taken new after) p moved inside

  -- the least that waited is put back with more ticks
  pub IsSearched-later : (taken : List (List ℕ)) (queue rest new : List Key) (turned : List (List ℕ)) (k : Key) (ticks : ℕ) → IsPermutation queue (k ∷ rest) → k.0 < ticks → MayWait k.1 ticks → IsPermutation ((ticks, k.1) ∷ rest) new
      → IsSearched w MayWait taken queue turned → IsSearched w MayWait taken new turned
  IsSearched-later taken queue rest new turned k ticks moved more waits added searched =
      let later : Key = (ticks, k.1) in
      let all : All (IsWaiting MayWait) (k ∷ rest) = All-permutation (IsWaiting MayWait) queue (k ∷ rest) moved searched.waiting in
      known-again taken queue new turned turned
      (known-later taken queue new turned
      (IsPermutation-trans (prefixes queue) (k.1 ∷ prefixes rest) (prefixes new)
      (IsPermutation-map (λ (e : Key). e.1) queue (k ∷ rest) moved)
      (IsPermutation-map (λ (e : Key). e.1) (later ∷ rest) new added)))
      (All-permutation (IsWaiting MayWait) (later ∷ rest) new added (All-cons (IsWaiting MayWait) later rest waits (All-tail (IsWaiting MayWait) k rest all)))
      searched.none
      (λ prefix b inside is.
      let above : All (λ e. IsAtMost (b, prefix) e) (k ∷ rest) = All-permutation (λ e. IsAtMost (b, prefix) e) queue (k ∷ rest) moved (searched.least prefix b inside is) in
      All-permutation (λ e. IsAtMost (b, prefix) e) (later ∷ rest) new added
      (All-cons (λ e. IsAtMost (b, prefix) e) later rest
      (IsAtMost-trans (b, prefix) k later (All-head (λ e. IsAtMost (b, prefix) e) k rest above) (at_most-more k.0 ticks k.1 (omega (arith, more))))
      (All-tail (λ e. IsAtMost (b, prefix) e) k rest above)))
      searched

  -- the least that waited is noted, since it has no bound
  pub IsSearched-noted : IsSearchable w MayWait → (taken : List (List ℕ)) (queue rest : List Key) (turned : List (List ℕ)) (k : Key) → IsPermutation queue (k ∷ rest) → ((b : ℕ) → w.HasBound k.1 b → ⊥)
      → IsSearched w MayWait taken queue turned → IsSearched w MayWait taken rest (turned ++ k.1 ∷ [])
  IsSearched-noted laws taken queue rest turned k moved none searched =
      let all : All (IsWaiting MayWait) (k ∷ rest) = All-permutation (IsWaiting MayWait) queue (k ∷ rest) moved searched.waiting in
      let viable : w.IsViable k.1 = laws.waiting k.1 k.0 (All-head (IsWaiting MayWait) k rest all) in
      known-again taken queue rest turned (turned ++ k.1 ∷ []) (known-noted taken queue rest turned k moved)
      (All-tail (IsWaiting MayWait) k rest all)
      (All-append (HasNoBound w) turned (k.1 ∷ []) searched.none
      (All-cons (HasNoBound w) k.1 [] (record { viable = viable; none = none }) (All-nil (HasNoBound w))))
      (λ prefix b inside is. All-tail (λ e. IsAtMost (b, prefix) e) k rest (All-permutation (λ e. IsAtMost (b, prefix) e) queue (k ∷ rest) moved (searched.least prefix b inside is)))
      searched

-- One prefix more -------------------------------------------------------------------------------

module _ (w : World) (MayWait : List ℕ → ℕ → Type 0) (laws : IsSearchable w MayWait) where
  -- the least was taken with its own bound, and its children wait
  pub IsSearched-next : (taken : List (List ℕ)) (queue rest new : List Key) (turned : List (List ℕ)) (k : Key)
      → w.HasBound k.1 k.0 → IsPermutation queue (k ∷ rest) → All (λ e. IsAtMost k e) rest → IsIncompleteIn w k.1 → AddsChildren w MayWait k.1 k.0 (w.positions) rest new
      → IsSearched w MayWait taken queue turned → IsSearched w MayWait (k.1 ∷ taken) new turned
  IsSearched-next taken queue rest new turned k here moved least incomplete adds searched = record {
    bounded = All-cons (λ p. (b : ℕ) × w.HasBound p b) k.1 taken (k.0, here) searched.bounded;
    waiting = All-permutation (IsWaiting MayWait) (children ++ rest) new adds.added
        (All-append (IsWaiting MayWait) children rest adds.are.waiting (All-tail (IsWaiting MayWait) k rest (All-permutation (IsWaiting MayWait) queue (k ∷ rest) moved searched.waiting)));
    none = searched.none;
    different = different-permutation (prefixes children ++ old) now all_known
        (AllPairs-append (λ p q. p ≢ q) (prefixes children) old adds.are.different searched.different
        (All-from_contains (λ p. All (λ q. p ≢ q) old) (prefixes children)
        (λ p inside. All-from_contains (λ q. p ≢ q) old (λ q of_known same. fresh p inside (subst (Contains old) (sym same) of_known)))));
    incomplete = All-cons (IsIncompleteIn w) k.1 taken incomplete searched.incomplete;
    least = λ prefix b inside is. All-permutation (λ e. IsAtMost (b, prefix) e) (children ++ rest) new adds.added (below prefix b inside is);
    begun = λ viable. still [] (searched.begun viable);
    children = λ prefix q inside viable. ⊎_elim
        (λ (same : k.1 ≡ prefix). subst (λ p. Contains now (p ++ q ∷ [])) same (child q (subst (λ p. w.IsViable (p ++ q ∷ [])) (sym same) viable)))
        (λ (earlier : Contains taken prefix). still (prefix ++ q ∷ []) (searched.children prefix q earlier viable))
        (Contains-cons_cases k.1 taken prefix inside);
    parents = λ prefix q inside. ⊎_elim
        (λ (of_children : Contains (prefixes children) (prefix ++ q ∷ [])).
        subst (Contains (k.1 ∷ taken)) (parent prefix q of_children) (Contains-cons k.1 taken))
        (λ (earlier : Contains old (prefix ++ q ∷ [])). Contains-later k.1 taken prefix (searched.parents prefix q earlier))
        (Contains-append_cases (prefixes children) old (prefix ++ q ∷ []) (Contains-permutation now (prefixes children ++ old) (prefix ++ q ∷ [])
        (IsPermutation-sym (prefixes children ++ old) now all_known) inside));
  }
    where
      children : List Key
      children = adds.children

      old : List (List ℕ)
      old = known taken queue turned

      now : List (List ℕ)
      now = known (k.1 ∷ taken) new turned

      all_known : IsPermutation (prefixes children ++ old) now
      all_known = known-next taken queue rest adds.children new turned k moved adds.added

      still : (p : List ℕ) → Contains old p → Contains now p
      still p inside = Contains-permutation (prefixes children ++ old) now p all_known (Contains-append_right (prefixes children) old p inside)

      child : (q : ℕ) → w.IsViable (k.1 ++ q ∷ []) → Contains now (k.1 ++ q ∷ [])
      child q viable =
          Contains-permutation (prefixes children ++ old) now (k.1 ++ q ∷ []) all_known
          (Contains-append_left (prefixes children) old (k.1 ++ q ∷ []) (adds.are.every q (laws.within k.1 q viable) viable))

      next : (p : List ℕ) → Contains (prefixes children) p → (q : ℕ) × (p ≡ k.1 ++ q ∷ [])
      next p inside =
          let is = All-contains (IsNext k.1 (w.positions)) (prefixes children) p adds.are.next inside in
          (is.0, is.2)

      parent : (prefix : List ℕ) (q : ℕ) → Contains (prefixes children) (prefix ++ q ∷ []) → k.1 ≡ prefix
      parent prefix q inside =
          let is = next (prefix ++ q ∷ []) inside in
          sym (last-same prefix k.1 q is.0 is.1).0

      -- no child was known before
      fresh : (p : List ℕ) → Contains (prefixes children) p → Contains old p → ⊥
      fresh p inside earlier =
          let is = next p inside in
          let taken_before : Contains taken k.1 = searched.parents k.1 is.0 (subst (Contains old) is.1 earlier) in
          let waits : Contains (prefixes queue) k.1 = Contains-permutation (k.1 ∷ prefixes rest) (prefixes queue) k.1
          (IsPermutation-sym (prefixes queue) (k.1 ∷ prefixes rest) (IsPermutation-map (λ (e : Key). e.1) queue (k ∷ rest) moved)) (Contains-cons k.1 (prefixes rest)) in
          apart-append taken (prefixes queue ++ turned) k.1 (subst (AllPairs (λ p q. p ≢ q)) (append_assoc taken (prefixes queue) turned) searched.different)
          taken_before (Contains-append_left (prefixes queue) turned k.1 waits)

      below : (prefix : List ℕ) (b : ℕ) → Contains (k.1 ∷ taken) prefix → w.HasBound prefix b → All (λ e. IsAtMost (b, prefix) e) (children ++ rest)
      below prefix b inside is =
          let first : IsAtMost (b, prefix) k = ⊎_elim
          (λ (same : k.1 ≡ prefix).
          let bounds : b ≡ k.0 = laws.one prefix b k.0 is (subst (λ p. w.HasBound p k.0) same here) in
          subst (λ e. IsAtMost e k) (ap₂ (λ n p. (n, p)) (sym bounds) same) (IsAtMost-refl k))
          (λ (earlier : Contains taken prefix). All-head (λ e. IsAtMost (b, prefix) e) k rest (All-permutation (λ e. IsAtMost (b, prefix) e) queue (k ∷ rest) moved (searched.least prefix b earlier is)))
          (Contains-cons_cases k.1 taken prefix inside) in
          All-weaker (λ e. IsAtMost k e) (λ e. IsAtMost (b, prefix) e) (λ e after. IsAtMost-trans (b, prefix) k e first after) (children ++ rest)
          (All-append (λ e. IsAtMost k e) children rest
          (All-from_contains (λ e. IsAtMost k e) children (λ e inside. after_parent e inside))
          least)
        where
          after_parent : (e : Key) → Contains children e → IsAtMost k e
          after_parent e inside =
              let is = next e.1 (Contains-prefixes children e inside) in
              subst (λ p. IsAtMost k (e.0, p)) (sym is.1) (at_most-extension k.0 e.0 k.1 (is.0 ∷ []) (All-contains (λ (c : Key). k.0 ≤ c.0) children e adds.are.later inside))
