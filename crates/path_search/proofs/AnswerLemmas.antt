-- what a best-first search knows when it ends
use Rattle.std.proofs.Common.{refl, ◌≡◌, ◌≢◌, ◌⊎◌, inl, inr, ⊎_elim, ℕ, ◌+◌, ◌<◌, ◌≤◌, Bool, true, List, [], ◌∷◌, ◌++◌, length, Some, None, sym, ap, ◌∙◌, subst, arith, append_assoc, append-nil, length-append, nat_lt, nat_cmp, cond, false}
use Rattle.std.proofs.lemmas.Bool.Decides.{nat_tests}
use Rattle.std.proofs.lemmas.List.Elements.{All-cons, All-contains, All-weaker, All-filter, All-contains_itself, filter_passes, Contains-append_left, Contains-append_right, Contains-append_cases}
use Rattle.std.proofs.lemmas.List.Kept.{AllPairs-cons, AllPairs-filter}
use Rattle.std.proofs.lemmas.List.Sorted.{IsPermutation-refl, IsPermutation-sym, IsPermutation-map, Contains-permutation}
use Rattle.std.specs.Prelude.{All, AllPairs, Contains, IsPermutation, IsSorted, MatchOption}
use Rattle.std.specs.List.{filter}
use Rattle.std.specs.Cmp.Lexicographic.{slice_cmp}
use Rattle.base_words.specs.Lists.{Extends}
use Rattle.base_words.proofs.PairLemmas.{AllPairs-tail}
use Rattle.hold_limits.specs.Placement.{Key, IsAtMost}
use Rattle.hold_limits.proofs.KeyOrder.{IsAtMost-refl, IsAtMost-trans, IsAtMost-antisymm}
use Rattle.hold_limits.proofs.SoundLemmas.{AllPairs-front}
use Rattle.certificate.specs.Evidence.{claimed, paths_of}
use Rattle.certificate.specs.Good.{IsBefore, AreAtMost}
use Rattle.cert_checker.specs.FirstReason.{AreExactly}
use Rattle.path_search.specs.declared.found.Found.{Found}
use Rattle.path_search.specs.Keys.{prefixes}
use Rattle.path_search.specs.Promising.{IsPromising, IsPromisingAndIncomplete, HasNoBound, HasPromisingParent, IsLeft, AreMoreThan, IsFoundFor}
use Rattle.path_search.specs.Search.{IsWaiting, known, IsSearched}
use Rattle.path_search.specs.Worlds.{World, key_in, IsIncompleteIn, HasNone, IsSearchable}
use Rattle.path_search.proofs.CountLemmas.{Contains-cons, Contains-later, Contains-cons_cases, Contains-nil, AllPairs-append, All-from_contains, apart-append, length-within, different-permutation, rising-sorted, last-or_none}
use Rattle.path_search.proofs.BoundLemmas.{at_most-more, front-at_most}
use Rattle.path_search.proofs.SearchLemmas.{Contains-prefixes, key-of_prefix, IsSearched-empty}

-- Filters ---------------------------------------------------------------------------------------

kept : {X : Type 0} (test : X → Bool) (xs : List X) (x : X) → Contains xs x → test x ≡ true → Contains (filter test xs) x
kept test [] x inside passes = absurd (Contains-nil x inside)
kept {X} test (y ∷ xs) x inside passes = ⊎_elim
    (λ (is : y ≡ x). rw (ap test is ∙ passes) (subst (Contains (y ∷ filter test xs)) is (Contains-cons y (filter test xs))))
    (λ (later : Contains xs x). beside (test y) (kept test xs x later passes))
    (Contains-cons_cases y xs x inside)
  where
    beside : (b : Bool) → Contains (filter test xs) x → Contains (cond b (y ∷ filter test xs) (filter test xs)) x
    beside true given = Contains-later y (filter test xs) x given
    beside false given = given

from_kept : {X : Type 0} (test : X → Bool) (xs : List X) (x : X) → Contains (filter test xs) x → Contains xs x × (test x ≡ true)
from_kept test xs x inside = (
  All-contains (Contains xs) (filter test xs) x (All-filter test (Contains xs) xs (All-contains_itself xs)) inside,
  All-contains (λ y. test y ≡ true) (filter test xs) x (filter_passes test xs) inside,
)

short-is : (m n : ℕ) → nat_lt m n ≡ true → m < n
short-is m n is = grind (arith, nat_tests)

is-short : (m n : ℕ) → m < n → nat_lt m n ≡ true
is-short m n less = grind (arith, nat_tests)

AllPairs-back : {X : Type 0} (R : X → X → Type 0) (xs ys : List X) → AllPairs R (xs ++ ys) → AllPairs R ys
AllPairs-back R [] ys pairs = pairs
AllPairs-back R (x ∷ xs) ys pairs = AllPairs-back R xs ys (AllPairs-tail R x (xs ++ ys) pairs)

-- the incomplete ones of some prefixes
abbrev incomplete_of : World → List (List ℕ) → List (List ℕ)
incomplete_of w lists = filter (λ p. nat_lt (length p) (w.count)) lists

-- what of some prefixes is incomplete is one of them, and leaves containers
from-incomplete : (w : World) (lists : List (List ℕ)) (p : List ℕ) → Contains (incomplete_of w lists) p → Contains lists p × IsIncompleteIn w p
from-incomplete w lists p inside =
    let from = from_kept (λ (q : List ℕ). nat_lt (length q) (w.count)) lists p inside in
    (from.0, short-is (length p) (w.count) from.1)

is-incomplete : (w : World) (lists : List (List ℕ)) (p : List ℕ) → Contains lists p → IsIncompleteIn w p → Contains (incomplete_of w lists) p
is-incomplete w lists p inside short = kept (λ (q : List ℕ). nat_lt (length q) (w.count)) lists p inside (is-short (length p) (w.count) short)

apart-incomplete : (w : World) (lists : List (List ℕ)) → AllPairs (λ p q. p ≢ q) lists → AllPairs (λ p q. p ≢ q) (incomplete_of w lists)
apart-incomplete w lists different = AllPairs-filter (λ p q. p ≢ q) (λ (q : List ℕ). nat_lt (length q) (w.count)) lists different

-- some front of the prefix waits
Waits : List Key → List ℕ → Type 0
Waits queue p = (k : Key) × Contains queue k × Extends k.1 p

-- a search has ended: these were taken, and the rest waits beside the path that is claimed, if one is
pub record IsEnd (w : World) (MayWait : List ℕ → ℕ → Type 0) (taken : List (List ℕ)) (queue rest : List Key) (turned : List (List ℕ)) : Type 0 where
  pub searched : IsSearched w MayWait taken queue turned
  -- what waits and leaves containers is of the rest
  pub into : (p : List ℕ) → Contains (prefixes queue) p → IsIncompleteIn w p → Contains (prefixes rest) p
  pub from : (p : List ℕ) → Contains (prefixes rest) p → Contains (prefixes queue) p
  pub different : AllPairs (λ p q. p ≢ q) (prefixes rest)
  -- what is promising and leaves containers was taken
  pub promising : (p : List ℕ) → IsPromising w p → IsIncompleteIn w p → Contains taken p

module _ (w : World) (MayWait : List ℕ → ℕ → Type 0) (laws : IsSearchable w MayWait) where
  -- The frontier --------------------------------------------------------------------------------

  -- what is known and has a bound has been taken, or waits
  taken-or_waits : (taken : List (List ℕ)) (queue : List Key) (turned : List (List ℕ)) (p : List ℕ) (b : ℕ) → IsSearched w MayWait taken queue turned → w.HasBound p b → Contains (known taken queue turned) p
      → Contains taken p ⊎ ((k : Key) × Contains queue k × (k.1 ≡ p))
  taken-or_waits taken queue turned p b searched is inside = ⊎_elim
      (λ (bounded : Contains (taken ++ prefixes queue) p). ⊎_elim
      (λ (first : Contains taken p). inl first)
      (λ (second : Contains (prefixes queue) p). inr (key-of_prefix queue p second))
      (Contains-append_cases taken (prefixes queue) p bounded))
      (λ (other : Contains turned p). absurd ((All-contains (HasNoBound w) turned p searched.none other).none b is))
      (Contains-append_cases (taken ++ prefixes queue) turned p inside)

  -- a prefix with a bound that goes on after one that was taken has been taken, or a front of it waits
  goes-on : (taken : List (List ℕ)) (queue : List Key) (turned : List (List ℕ)) (front rest : List ℕ) (b : ℕ) → IsSearched w MayWait taken queue turned → Contains taken front → w.HasBound (front ++ rest) b
      → Contains taken (front ++ rest) ⊎ Waits queue (front ++ rest)
  unfolding Waits
  goes-on taken queue turned front [] b searched inside is = inl (subst (Contains taken) (sym (append-nil front)) inside)
  goes-on taken queue turned front (q ∷ rest) b searched inside is =
      let joined : front ++ (q ∷ rest) ≡ (front ++ q ∷ []) ++ rest = sym (append_assoc front (q ∷ []) rest) in
      let whole : w.HasBound ((front ++ q ∷ []) ++ rest) b = subst (λ p. w.HasBound p b) joined is in
      let here = front-at_most w MayWait laws (front ++ q ∷ []) rest b whole in
      ⊎_elim
      (λ (next : Contains taken (front ++ q ∷ [])).
      subst (λ p. Contains taken p ⊎ Waits queue p) (sym joined) (goes-on taken queue turned (front ++ q ∷ []) rest b searched next whole))
      (λ (waits : (k : Key) × Contains queue k × (k.1 ≡ front ++ q ∷ [])).
      inr (waits.0, waits.1, (rest, joined ∙ ap (λ p. p ++ rest) (sym waits.2))))
      (taken-or_waits taken queue turned (front ++ q ∷ []) here.0 searched here.1 (searched.children front q inside (laws.viable (front ++ q ∷ []) here.0 here.1)))

  -- each prefix with a bound has been taken, or a front of it waits
  frontier : (taken : List (List ℕ)) (queue : List Key) (turned : List (List ℕ)) (p : List ℕ) (b : ℕ) → IsSearched w MayWait taken queue turned → w.HasBound p b → Contains taken p ⊎ Waits queue p
  unfolding Waits
  frontier taken queue turned p b searched is =
      let here = front-at_most w MayWait laws [] p b is in
      ⊎_elim
      (λ (inside : Contains taken []). goes-on taken queue turned [] p b searched inside is)
      (λ (waits : (k : Key) × Contains queue k × (k.1 ≡ [])). inr (waits.0, waits.1, (p, ap (λ front. front ++ p) (sym waits.2))))
      (taken-or_waits taken queue turned [] here.0 searched here.1 (searched.begun (laws.viable [] here.0 here.1)))

  -- a front that waits has a key that is at most that of the prefix
  waits-below : (queue : List Key) (k : Key) (p : List ℕ) (b : ℕ) → All (IsWaiting MayWait) queue → Contains queue k → Extends k.1 p → w.HasBound p b → IsAtMost k (b, p)
  waits-below queue k p b waiting inside extends is =
      let own = All-contains (IsWaiting MayWait) queue k waiting inside in
      let front = front-at_most w MayWait laws k.1 extends.0 b (subst (λ p. w.HasBound p b) extends.1 is) in
      subst (λ p. IsAtMost k (b, p)) (sym extends.1)
      (IsAtMost-trans k (front.0, k.1) (b, k.1 ++ extends.0) (at_most-more k.0 front.0 k.1 (laws.below k.1 k.0 front.0 own front.1)) front.2)

  -- where a path is the best, something waits that is at most it
  best-waits : (taken : List (List ℕ)) (queue : List Key) (turned : List (List ℕ)) (best : List ℕ) → IsSearched w MayWait taken queue turned → w.IsBest best → (k : Key) × Contains queue k × IsAtMost k (key_in w best)
  unfolding Waits
  best-waits taken queue turned best searched is =
      let bounded = laws.best_bound best is in
      ⊎_elim
      (λ (inside : Contains taken best).
      let short = All-contains (IsIncompleteIn w) taken best searched.incomplete inside in
      absurd (omega (arith, short, laws.best_whole best is)))
      (λ (waits : Waits queue best).
      (waits.0, waits.1, waits-below queue waits.0 best (w.distance best) searched.waiting waits.1 waits.2 bounded))
      (frontier taken queue turned best (w.distance best) searched bounded)

  -- What is promising ---------------------------------------------------------------------------

  -- what was taken is promising
  pub taken-promising : (taken : List (List ℕ)) (queue : List Key) (turned : List (List ℕ)) → IsSearched w MayWait taken queue turned → (p : List ℕ) → Contains taken p → IsPromising w p
  taken-promising taken queue turned searched p inside =
      let here = All-contains (λ p. (b : ℕ) × w.HasBound p b) taken p searched.bounded inside in
      record {
        bound = here.0;
        is = here.1;
        below = λ best is.
            let waits = best-waits taken queue turned best searched is in
            IsAtMost-trans (here.0, p) waits.0 (key_in w best)
            (All-contains (λ k. IsAtMost (here.0, p) k) queue waits.0 (searched.least p here.0 inside here.1) waits.1)
            waits.2;
      }

  -- nothing that waits comes before the least
  first-least : (queue rest : List Key) (k : Key) → IsPermutation queue (k ∷ rest) → All (λ e. IsAtMost k e) rest → (e : Key) → Contains queue e → IsAtMost k e
  first-least queue rest k moved least e inside = ⊎_elim
      (λ (is : k ≡ e). subst (λ f. IsAtMost k f) is (IsAtMost-refl k))
      (λ (later : Contains rest e). All-contains (λ f. IsAtMost k f) rest e least later)
      (Contains-cons_cases k rest e (Contains-permutation queue (k ∷ rest) e moved inside))

  -- the least that waits is promising, where it waits with its own bound
  least-promising : (taken : List (List ℕ)) (queue rest : List Key) (turned : List (List ℕ)) (k : Key) → IsSearched w MayWait taken queue turned → w.HasBound k.1 k.0 → IsPermutation queue (k ∷ rest) → All (λ e. IsAtMost k e) rest
      → IsPromising w k.1
  least-promising taken queue rest turned k searched own moved least = record {
    bound = k.0;
    is = own;
    below = λ best is.
        let waits = best-waits taken queue turned best searched is in
        IsAtMost-trans k waits.0 (key_in w best) (first-least queue rest k moved least waits.0 waits.1) waits.2;
  }

  -- what is taken or waits is no prefix twice
  bounded-different : (taken : List (List ℕ)) (queue : List Key) (turned : List (List ℕ)) → IsSearched w MayWait taken queue turned → AllPairs (λ p q. p ≢ q) (taken ++ prefixes queue)
  bounded-different taken queue turned searched = AllPairs-front (λ p q. p ≢ q) (taken ++ prefixes queue) turned searched.different

  taken-different : (taken : List (List ℕ)) (queue : List Key) (turned : List (List ℕ)) → IsSearched w MayWait taken queue turned → AllPairs (λ p q. p ≢ q) taken
  taken-different taken queue turned searched = AllPairs-front (λ p q. p ≢ q) taken (prefixes queue) (bounded-different taken queue turned searched)

  -- more is promising than was taken, where the least waits with its own bound
  pub more-promising : (taken : List (List ℕ)) (queue rest : List Key) (turned : List (List ℕ)) (k : Key) → IsSearched w MayWait taken queue turned → w.HasBound k.1 k.0 → IsPermutation queue (k ∷ rest) → All (λ e. IsAtMost k e) rest
      → AreMoreThan (IsPromising w) (length taken)
  more-promising taken queue rest turned k searched own moved least = record {
    lists = k.1 ∷ taken;
    different = AllPairs-cons (λ p q. p ≢ q) k.1 taken
        (All-from_contains (λ p. k.1 ≢ p) taken
        (λ p inside same. apart-append taken (prefixes queue) k.1 (bounded-different taken queue turned searched) (subst (Contains taken) (sym same) inside) waits))
        (taken-different taken queue turned searched);
    of_kind = All-cons (IsPromising w) k.1 taken (least-promising taken queue rest turned k searched own moved least)
        (All-from_contains (IsPromising w) taken (taken-promising taken queue turned searched));
    more = omega arith;
  }
    where
      waits : Contains (prefixes queue) k.1
      waits = Contains-prefixes queue k (Contains-permutation (k ∷ rest) queue k (IsPermutation-sym queue (k ∷ rest) moved) (Contains-cons k rest))

  -- Nothing waits -----------------------------------------------------------------------------

  none-waits : (taken : List (List ℕ)) (turned : List (List ℕ)) → IsSearched w MayWait taken [] turned → (p : List ℕ) (b : ℕ) → w.HasBound p b → Contains taken p
  unfolding Waits
  none-waits taken turned searched p b is = ⊎_elim
      (λ (inside : Contains taken p). inside)
      (λ (waits : Waits [] p). absurd (Contains-nil waits.0 waits.1))
      (frontier taken [] turned p b searched is)

  pub none-admissible : (taken : List (List ℕ)) (turned : List (List ℕ)) → IsSearched w MayWait taken [] turned → HasNone w
  none-admissible taken turned searched path admissible =
      let best = laws.best_exists path admissible in
      let inside = none-waits taken turned searched best.0 (w.distance best.0) (laws.best_bound best.0 best.1) in
      let short = All-contains (IsIncompleteIn w) taken best.0 searched.incomplete inside in
      absurd (omega (arith, short, laws.best_whole best.0 best.1))

  pub none-at_most : (taken : List (List ℕ)) (turned : List (List ℕ)) → IsSearched w MayWait taken [] turned → AreAtMost (IsPromising w) (length taken)
  none-at_most taken turned searched lists different promising =
      length-within lists taken different (All-weaker (IsPromising w) (Contains taken) (λ p is. none-waits taken turned searched p is.bound is.is) lists promising)

  pub none-end : (taken : List (List ℕ)) (turned : List (List ℕ)) → IsSearched w MayWait taken [] turned → IsEnd w MayWait taken [] [] turned
  none-end taken turned searched = record {
    searched = searched;
    into = λ p inside short. inside;
    from = λ p inside. inside;
    different = λ i j d before within. absurd (omega arith);
    promising = λ p is short. none-waits taken turned searched p is.bound is.is;
  }

  -- The best path waits first -------------------------------------------------------------------

  module _ (taken : List (List ℕ)) (queue rest : List Key) (turned : List (List ℕ)) (k : Key) (searched : IsSearched w MayWait taken queue turned) (own : w.HasBound k.1 k.0) (moved : IsPermutation queue (k ∷ rest))
      (least : All (λ e. IsAtMost k e) rest) (complete : length k.1 ≡ w.count) where
    first-key : key_in w k.1 ≡ k
    first-key = ap (λ n. (n, k.1)) (sym (laws.complete k.1 k.0 own complete))

    pub first-best : w.IsBest k.1
    first-best = (laws.best k.1).1 (record {
      admissible = laws.admissible k.1 k.0 own complete;
      least = λ other admissible.
          let best = laws.best_exists other admissible in
          let waits = best-waits taken queue turned best.0 searched best.1 in
          subst (λ e. IsAtMost e (key_in w other)) (sym first-key)
          (IsAtMost-trans k waits.0 (key_in w other) (first-least queue rest k moved least waits.0 waits.1)
          (IsAtMost-trans waits.0 (key_in w best.0) (key_in w other) waits.2 (((laws.best best.0).0 best.1).least other admissible)));
    })

    -- what is promising was taken, or is the best path
    first-promising : (p : List ℕ) → IsPromising w p → Contains taken p ⊎ (k.1 ≡ p)
    unfolding Waits
    first-promising p promising =
        let below : IsAtMost (promising.bound, p) k = subst (λ e. IsAtMost (promising.bound, p) e) first-key (promising.below k.1 first-best) in
        ⊎_elim
        (λ (inside : Contains taken p). inl inside)
        (λ (waits : Waits queue p).
        let above : IsAtMost k (promising.bound, p) = IsAtMost-trans k waits.0 (promising.bound, p) (first-least queue rest k moved least waits.0 waits.1)
        (waits-below queue waits.0 p promising.bound searched.waiting waits.1 waits.2 promising.is) in
        inr (ap (λ (e : Key). e.1) (IsAtMost-antisymm k (promising.bound, p) above below)))
        (frontier taken queue turned p promising.bound searched promising.is)

    pub first-at_most : AreAtMost (IsPromising w) (length taken + 1)
    first-at_most lists different promising =
        omega (
          arith,
          length-within lists (k.1 ∷ taken) different
              (All-weaker (IsPromising w) (Contains (k.1 ∷ taken))
              (λ p is. ⊎_elim
              (λ (inside : Contains taken p). Contains-later k.1 taken p inside)
              (λ (same : k.1 ≡ p). subst (Contains (k.1 ∷ taken)) same (Contains-cons k.1 taken))
              (first-promising p is))
              lists promising),
        )

    moved_prefixes : IsPermutation (prefixes queue) (k.1 ∷ prefixes rest)
    moved_prefixes = IsPermutation-map (λ (e : Key). e.1) queue (k ∷ rest) moved

    pub first-end : IsEnd w MayWait taken queue rest turned
    first-end = record {
      searched = searched;
      into = λ p inside short. ⊎_elim
          (λ (same : k.1 ≡ p). absurd (omega (arith, short, complete, ap length same)))
          (λ (later : Contains (prefixes rest) p). later)
          (Contains-cons_cases k.1 (prefixes rest) p (Contains-permutation (prefixes queue) (k.1 ∷ prefixes rest) p moved_prefixes inside));
      from = λ p inside. Contains-permutation (k.1 ∷ prefixes rest) (prefixes queue) p (IsPermutation-sym (prefixes queue) (k.1 ∷ prefixes rest) moved_prefixes) (Contains-later k.1 (prefixes rest) p inside);
      different = AllPairs-tail (λ p q. p ≢ q) k.1 (prefixes rest)
          (different-permutation (prefixes queue) (k.1 ∷ prefixes rest) moved_prefixes (AllPairs-back (λ p q. p ≢ q) taken (prefixes queue) (bounded-different taken queue turned searched)));
      promising = λ p is short. ⊎_elim
          (λ (inside : Contains taken p). inside)
          (λ (same : k.1 ≡ p). absurd (omega (arith, short, complete, ap length same)))
          (first-promising p is);
    }

-- What is found ---------------------------------------------------------------------------------

module _ (w : World) (MayWait : List ℕ → ℕ → Type 0) (laws : IsSearchable w MayWait) (taken : List (List ℕ)) (queue rest : List Key) (turned cuts : List (List ℕ))
    (end : IsEnd w MayWait taken queue rest turned) (moved : IsPermutation (incomplete_of w turned ++ incomplete_of w (prefixes rest)) cuts) (sorted : IsSorted (slice_cmp nat_cmp) cuts) where
  of_known : (p : List ℕ) → Contains (prefixes queue) p → Contains (known taken queue turned) p
  of_known p inside = Contains-append_left (taken ++ prefixes queue) turned p (Contains-append_right taken (prefixes queue) p inside)

  reached : (p : List ℕ) → Contains (known taken queue turned) p → (p ≡ []) ⊎ HasPromisingParent w p
  reached p inside = ⊎_elim
      (λ (none : p ≡ []). inl none)
      (λ (some : (front : List ℕ) × (q : ℕ) × (p ≡ front ++ q ∷ [])). inr (
        some.0,
        some.1,
        some.2,
        taken-promising w MayWait laws taken queue turned end.searched some.0
            (end.searched.parents some.0 some.1 (subst (Contains (known taken queue turned)) some.2 inside)),
      ))
      (last-or_none p)

  turned-left : (p : List ℕ) → Contains (incomplete_of w turned) p → IsLeft w p
  turned-left p inside =
      let from = from-incomplete w turned p inside in
      let own = All-contains (HasNoBound w) turned p end.searched.none from.0 in
      record {
        viable = own.viable;
        incomplete = from.1;
        unpromising = λ promising. own.none promising.bound promising.is;
        reached = reached p (Contains-append_right (taken ++ prefixes queue) turned p from.0);
      }

  waiting-left : (p : List ℕ) → Contains (incomplete_of w (prefixes rest)) p → IsLeft w p
  waiting-left p inside =
      let from = from-incomplete w (prefixes rest) p inside in
      let waits : Contains (prefixes queue) p = end.from p from.0 in
      let found = key-of_prefix queue p waits in
      record {
        viable = subst (w.IsViable) found.2 (laws.waiting found.0.1 found.0.0 (All-contains (IsWaiting MayWait) queue found.0 end.searched.waiting found.1));
        incomplete = from.1;
        unpromising = λ promising. apart-append taken (prefixes queue) p (bounded-different w MayWait laws taken queue turned end.searched) (end.promising p promising from.1) waits;
        reached = reached p (of_known p waits);
      }

  cut-left : (p : List ℕ) → Contains cuts p → IsLeft w p
  cut-left p inside = ⊎_elim
      (λ (first : Contains (incomplete_of w turned) p). turned-left p first)
      (λ (second : Contains (incomplete_of w (prefixes rest)) p). waiting-left p second)
      (Contains-append_cases (incomplete_of w turned) (incomplete_of w (prefixes rest)) p (Contains-permutation cuts (incomplete_of w turned ++ incomplete_of w (prefixes rest)) p (IsPermutation-sym (incomplete_of w turned ++ incomplete_of w (prefixes rest)) cuts moved) inside))

  left-known : (p : List ℕ) → IsLeft w p → Contains (known taken queue turned) p
  left-known p left = ⊎_elim
      (λ (none : p ≡ []). subst (Contains (known taken queue turned)) (sym none) (end.searched.begun (subst (w.IsViable) none left.viable)))
      (λ (parent : HasPromisingParent w p).
      let longer : length p ≡ length parent.0 + 1 = omega (arith, ap length parent.2, length-append parent.0 (parent.1 ∷ [])) in
      let before : Contains taken parent.0 = end.promising parent.0 parent.3 (omega (arith, left.incomplete, longer)) in
      subst (Contains (known taken queue turned)) (sym parent.2) (end.searched.children parent.0 parent.1 before (subst (w.IsViable) parent.2 left.viable)))
      left.reached

  left-cut : (p : List ℕ) → IsLeft w p → Contains cuts p
  left-cut p left = Contains-permutation (incomplete_of w turned ++ incomplete_of w (prefixes rest)) cuts p moved
      (⊎_elim
      (λ (bounded : Contains (taken ++ prefixes queue) p). ⊎_elim
      (λ (inside : Contains taken p). absurd (left.unpromising (taken-promising w MayWait laws taken queue turned end.searched p inside)))
      (λ (inside : Contains (prefixes queue) p). Contains-append_right (incomplete_of w turned) (incomplete_of w (prefixes rest)) p
      (is-incomplete w (prefixes rest) p (end.into p inside left.incomplete) left.incomplete))
      (Contains-append_cases taken (prefixes queue) p bounded))
      (λ (other : Contains turned p). Contains-append_left (incomplete_of w turned) (incomplete_of w (prefixes rest)) p (is-incomplete w turned p other left.incomplete))
      (Contains-append_cases (taken ++ prefixes queue) turned p (left-known p left)))

  cuts-rise : AllPairs IsBefore cuts
  cuts-rise = rising-sorted cuts sorted (different-permutation (incomplete_of w turned ++ incomplete_of w (prefixes rest)) cuts moved
      (AllPairs-append (λ p q. p ≢ q) (incomplete_of w turned) (incomplete_of w (prefixes rest))
      (apart-incomplete w turned (AllPairs-back (λ p q. p ≢ q) (taken ++ prefixes queue) turned end.searched.different))
      (apart-incomplete w (prefixes rest) end.different)
      (All-from_contains (λ p. All (λ q. p ≢ q) (incomplete_of w (prefixes rest))) (incomplete_of w turned)
      (λ p of_turned. All-from_contains (λ q. p ≢ q) (incomplete_of w (prefixes rest))
      (λ q of_rest same. apart-append (taken ++ prefixes queue) turned p end.searched.different
      (Contains-append_right taken (prefixes queue) p (subst (Contains (prefixes queue)) (sym same) (end.from q (from-incomplete w (prefixes rest) q of_rest).0)))
      (from-incomplete w turned p of_turned).0)))))

  expanded-are : AreExactly (IsPromisingAndIncomplete w) (length taken)
  expanded-are = record {
    lists = taken;
    different = taken-different w MayWait laws taken queue turned end.searched;
    of_kind = All-from_contains (IsPromisingAndIncomplete w) taken (λ p inside. record {
      promising = taken-promising w MayWait laws taken queue turned end.searched p inside;
      incomplete = All-contains (IsIncompleteIn w) taken p end.searched.incomplete inside;
    });
    every = λ p is. end.promising p is.promising is.incomplete;
    number = refl;
  }

  pub end-found : (found : Found) → MatchOption (claimed found.claim) (HasNone w) (w.IsBest) → paths_of found.cuts.items ≡ cuts → found.expanded ≡ length taken → IsFoundFor w found
  end-found found claim are expanded = record {
    claim = claim;
    cuts = λ prefix. (
      λ inside. cut-left prefix (subst (λ xs. Contains xs prefix) are inside),
      λ left. subst (λ xs. Contains xs prefix) (sym are) (left-cut prefix left),
    );
    rising = subst (AllPairs IsBefore) (sym are) cuts-rise;
    expanded = subst (AreExactly (IsPromisingAndIncomplete w)) (sym expanded) expanded-are;
  }

-- The two ends ----------------------------------------------------------------------------------

-- what is put together of a queue and of the prefixes at which the search turned back, and how many were taken
pub record IsMade (queue : List Key) (turned : List (List ℕ)) (complete number : ℕ) (found : Found) : Type 0 where
  pub kept : IsPermutation (filter (λ p. nat_lt (length p) complete) turned ++ filter (λ p. nat_lt (length p) complete) (prefixes queue)) (paths_of found.cuts.items)
  pub sorted : IsSorted (slice_cmp nat_cmp) (paths_of found.cuts.items)
  pub expanded : found.expanded ≡ number

module _ (w : World) (MayWait : List ℕ → ℕ → Type 0) (laws : IsSearchable w MayWait) (taken : List (List ℕ)) (turned : List (List ℕ)) where
  -- nothing waits
  pub none-found : (queue : List Key) (complete : ℕ) (found : Found) → IsSearched w MayWait taken [] turned → queue ≡ [] → complete ≡ w.count → claimed found.claim ≡ None → IsMade queue turned complete (length taken) found → IsFoundFor w found
  none-found queue complete found searched empty of_items claim made =
      end-found w MayWait laws taken [] [] turned (paths_of found.cuts.items) (none-end w MayWait laws taken turned searched)
      (subst (λ n. IsPermutation (filter (λ p. nat_lt (length p) n) turned ++ []) (paths_of found.cuts.items)) of_items
      (subst (λ q. IsPermutation (filter (λ p. nat_lt (length p) complete) turned ++ filter (λ p. nat_lt (length p) complete) (prefixes q)) (paths_of found.cuts.items)) empty made.kept))
      made.sorted found
      (subst (λ o. MatchOption o (HasNone w) (w.IsBest)) (sym claim) (none-admissible w MayWait laws taken turned searched))
      refl made.expanded

  pub none-enough : (budget : ℕ) → IsSearched w MayWait taken [] turned → length taken ≤ budget → AreAtMost (IsPromising w) budget
  none-enough budget searched within lists different promising = omega (arith, none-at_most w MayWait laws taken turned searched lists different promising, within)

  -- the least that waits is complete
  pub first-found : (queue rest : List Key) (k : Key) (complete : ℕ) (found : Found) → IsSearched w MayWait taken queue turned → w.HasBound k.1 k.0 → IsPermutation queue (k ∷ rest) → All (λ e. IsAtMost k e) rest → length k.1 ≡ complete
      → complete ≡ w.count → claimed found.claim ≡ Some k.1 → IsMade rest turned complete (length taken) found → IsFoundFor w found
  first-found queue rest k complete found searched own moved least all of_items claim made =
      let whole = all ∙ of_items in
      end-found w MayWait laws taken queue rest turned (paths_of found.cuts.items) (first-end w MayWait laws taken queue rest turned k searched own moved least whole)
      (subst (λ n. IsPermutation (filter (λ p. nat_lt (length p) n) turned ++ filter (λ p. nat_lt (length p) n) (prefixes rest)) (paths_of found.cuts.items)) of_items made.kept)
      made.sorted found
      (subst (λ o. MatchOption o (HasNone w) (w.IsBest)) (sym claim) (first-best w MayWait laws taken queue rest turned k searched own moved least whole))
      refl made.expanded

  pub first-enough : (queue rest : List Key) (k : Key) (budget : ℕ) → IsSearched w MayWait taken queue turned → w.HasBound k.1 k.0 → IsPermutation queue (k ∷ rest) → All (λ e. IsAtMost k e) rest → length k.1 ≡ w.count
      → length taken < budget → AreAtMost (IsPromising w) budget
  first-enough queue rest k budget searched own moved least whole within lists different promising =
      omega (arith, first-at_most w MayWait laws taken queue rest turned k searched own moved least whole lists different promising, within)

-- The empty prefix is not viable ----------------------------------------------------------------

module _ (w : World) (MayWait : List ℕ → ℕ → Type 0) (laws : IsSearchable w MayWait) where
  -- then nothing is found, without a look
  pub nothing-found : (found : Found) → (w.IsViable [] → ⊥) → claimed found.claim ≡ None → found.cuts.items ≡ [] → found.expanded ≡ 0 → IsFoundFor w found
  nothing-found found not claim cuts expanded =
      none-found w MayWait laws [] [] [] w.count found (IsSearched-empty w MayWait not) refl refl claim
      (record {
        kept = subst (λ xs. IsPermutation [] xs) (sym (ap paths_of cuts)) (IsPermutation-refl []);
        sorted = subst (λ xs. IsSorted (slice_cmp nat_cmp) xs) (sym (ap paths_of cuts)) (λ k d low high. absurd (omega arith));
        expanded = expanded;
      })

  pub nothing-enough : (budget : ℕ) → (w.IsViable [] → ⊥) → AreAtMost (IsPromising w) budget
  nothing-enough budget not = none-enough w MayWait laws [] [] budget (IsSearched-empty w MayWait not) (omega arith)
