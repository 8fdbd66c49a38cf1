-- how many lists there are of a kind
use Rattle.std.proofs.Common.{refl, ◌≡◌, ◌≢◌, ◌⊎◌, ⊎_elim, ℕ, suc, zero, ◌+◌, ◌<◌, ◌≤◌, List, [], ◌∷◌, ◌++◌, length, sym, ap, subst, arith, length-append}
use Rattle.std.proofs.lemmas.List.Elements.{All-nil, All-cons, All-head, All-tail, All-append, All-weaker, Contains-append_left, Contains-append_right, Contains-append_cases}
use Rattle.std.proofs.lemmas.List.Kept.{AllPairs-cons}
use Rattle.std.specs.Prelude.{All, AllPairs, slice_index_or}
use Rattle.std.specs.List.{Contains}
use Rattle.base_words.proofs.PairLemmas.{AllPairs-head, AllPairs-tail}
use Rattle.cert_checker.specs.FirstReason.{AreExactly}

AllPairs-append : (R : List ℕ → List ℕ → Type 0) (xs ys : List (List ℕ)) → AllPairs R xs → AllPairs R ys → All (λ x. All (R x) ys) xs → AllPairs R (xs ++ ys)
AllPairs-append R [] ys first second across = second
AllPairs-append R (x ∷ xs) ys first second across =
    let P : List ℕ → Type 0 = λ x. All (R x) ys in
    AllPairs-cons R x (xs ++ ys)
    (All-append (R x) xs ys (AllPairs-head R x xs first) (All-head P x xs across))
    (AllPairs-append R xs ys (AllPairs-tail R x xs first) second (All-tail P x xs across))

pub AreExactly-none : (Kind : List ℕ → Type 0) → ((p : List ℕ) → Kind p → ⊥) → AreExactly Kind 0
AreExactly-none Kind none = record {
  lists = [];
  different = λ i j d before within. absurd (omega arith);
  of_kind = All-nil Kind;
  every = λ p kind. absurd (none p kind);
  number = refl;
}

pub AreExactly-one : (Kind : List ℕ → Type 0) (front : List ℕ) → Kind front → ((p : List ℕ) → Kind p → p ≡ front) → AreExactly Kind 1
AreExactly-one Kind front kind only = record {
  lists = front ∷ [];
  different = λ i j d before within. absurd (omega arith);
  of_kind = All-cons Kind front [] kind (All-nil Kind);
  every = λ p is. (0, omega arith, sym (only p is));
  number = refl;
}

pub AreExactly-same : (A B : List ℕ → Type 0) (n : ℕ) → ((p : List ℕ) → A p → B p) → ((p : List ℕ) → B p → A p) → AreExactly A n → AreExactly B n
AreExactly-same A B n to from exactly = record {
  lists = exactly.lists;
  different = exactly.different;
  of_kind = All-weaker A B to exactly.lists exactly.of_kind;
  every = λ p kind. exactly.every p (from p kind);
  number = exactly.number;
}

-- lists of two kinds that no list shares
pub AreExactly-join : (A B C : List ℕ → Type 0) (m n : ℕ) → ((p : List ℕ) → A p → B p → ⊥)
    → ((p : List ℕ) → A p → C p) → ((p : List ℕ) → B p → C p) → ((p : List ℕ) → C p → A p ⊎ B p)
    → AreExactly A m → AreExactly B n → AreExactly C (m + n)
AreExactly-join A B C m n apart first second either a b = record {
  lists = a.lists ++ b.lists;
  different = AllPairs-append (λ p q. p ≢ q) a.lists b.lists a.different b.different
      (All-weaker A (λ p. All (λ q. p ≢ q) b.lists)
      (λ p in_a. All-weaker B (λ q. p ≢ q) (λ q in_b same. apart q (subst A same in_a) in_b) b.lists b.of_kind)
      a.lists a.of_kind);
  of_kind = All-append C a.lists b.lists (All-weaker A C first a.lists a.of_kind) (All-weaker B C second b.lists b.of_kind);
  every = λ p kind. ⊎_elim
      (λ in_a. Contains-append_left a.lists b.lists p (a.every p in_a))
      (λ in_b. Contains-append_right a.lists b.lists p (b.every p in_b))
      (either p kind);
  number = omega (arith, length-append a.lists b.lists, a.number, b.number);
}

-- At most as many -------------------------------------------------------------------------------

-- a list that contains something is what comes before it, it, and what comes after it
record Split (xs : List (List ℕ)) (x : List ℕ) : Type 0 where
  pub front : List (List ℕ)
  pub rest : List (List ℕ)
  pub is : xs ≡ front ++ x ∷ rest

split-at : (xs : List (List ℕ)) (x : List ℕ) (k : ℕ) → k < length xs → slice_index_or xs k x ≡ x → Split xs x
split-at [] x k less is = absurd (omega arith)
split-at (y ∷ xs) x zero less is = record { front = []; rest = xs; is = ap (λ z. z ∷ xs) is }
split-at (y ∷ xs) x (suc k) less is =
    let later = split-at xs x k (omega arith) is in
    record { front = y ∷ later.front; rest = later.rest; is = ap (λ zs. y ∷ zs) later.is }

one-contains : (x y : List ℕ) → Contains (x ∷ []) y → x ≡ y
one-contains x y contains = only contains.0 contains.1 contains.2
  where
    only : (k : ℕ) → k < length (x ∷ []) → slice_index_or (x ∷ []) k y ≡ y → x ≡ y
    only zero less is = is
    only (suc k) less is = absurd (omega arith)

-- what else is contained is before it or after it
other-contains : (front rest : List (List ℕ)) (x y : List ℕ) → x ≢ y → Contains (front ++ x ∷ rest) y → Contains (front ++ rest) y
other-contains front rest x y differ contains = ⊎_elim
    (λ earlier. Contains-append_left front rest y earlier)
    (λ later. ⊎_elim
    (λ here. absurd (differ (one-contains x y here)))
    (λ after. Contains-append_right front rest y after)
    (Contains-append_cases (x ∷ []) rest y later))
    (Contains-append_cases front (x ∷ rest) y contains)

-- different lists that are all contained in some lists are at most as many
at_most-contained : (xs ys : List (List ℕ)) → AllPairs (λ p q. p ≢ q) xs → All (Contains ys) xs → length xs ≤ length ys
at_most-contained [] ys different contained = omega arith
at_most-contained (x ∷ xs) ys different contained =
    let here = All-head (Contains ys) x xs contained in
    let parts = split-at ys x here.0 here.1 here.2 in
    let others : All (Contains (parts.front ++ parts.rest)) xs = kept parts.front parts.rest (subst (λ zs. All (Contains zs) xs) parts.is (All-tail (Contains ys) x xs contained)) in
    let fewer = at_most-contained xs (parts.front ++ parts.rest) (AllPairs-tail (λ p q. p ≢ q) x xs different) others in
    omega (arith, fewer, ap length parts.is, length-append parts.front (x ∷ parts.rest), length-append parts.front parts.rest)
  where
    kept : (front rest : List (List ℕ)) → All (Contains (front ++ x ∷ rest)) xs → All (Contains (front ++ rest)) xs
    kept front rest all = λ k d less. other-contains front rest x (slice_index_or xs k d)
        (AllPairs-head (λ p q. p ≢ q) x xs different k d less) (all k d less)

-- where there are exactly so many of a kind, different lists of the kind are at most as many
pub AreExactly-most : (Kind : List ℕ → Type 0) (n : ℕ) → AreExactly Kind n → (lists : List (List ℕ)) → AllPairs (λ p q. p ≢ q) lists → All Kind lists → length lists ≤ n
AreExactly-most Kind n exactly lists different of_kind =
    let contained = All-weaker Kind (Contains exactly.lists) exactly.every lists of_kind in
    omega (arith, at_most-contained lists exactly.lists different contained, exactly.number)
