-- lists of different elements, and their lengths
use Rattle.std.proofs.Common.{refl, ◌≡◌, ◌≢◌, ◌⊎◌, inl, inr, ⊎_elim, ℕ, ◌≤◌, List, [], ◌∷◌, ◌++◌, length, get_or, sym, ap, subst, arith, length-append, ap₂, Ordering, Less, Equal, Greater, nat_cmp, false}
use Rattle.std.proofs.lemmas.Bool.{true≢false}
use Rattle.std.proofs.lemmas.List.Elements.{All-nil, All-cons, All-head, All-tail, All-append, All-weaker, All-contains, Contains-append_right, Contains-append_cases, Contains-push_cases}
use Rattle.std.proofs.lemmas.List.Kept.{AllPairs-cons}
use Rattle.std.proofs.lemmas.List.Sorted.{IsPermutation-remove, length_permutation, Contains-permutation, sorted_far, ranks_by}
use Rattle.std.proofs.lemmas.Bool.Decides.{same_from_decides}
use Rattle.std.proofs.lemmas.Cmp.{nat_list_cmp_total}
use Rattle.std.proofs.lemmas.Map.Keys.{IsDistinct-IsPermutation}
use Rattle.std.proofs.lemmas.Map.Made.{AllPairs-from_IsDistinct, IsDistinct-from_AllPairs}
use Rattle.std.proofs.lemmas.Slice.Eq.{bytes_eq-Decides}
use Rattle.std.specs.Prelude.{All, AllPairs, Contains, IsPermutation, IsSorted, bytes_eq}
use Rattle.std.specs.Ordering.{is_lt, ordering_reverse}
use Rattle.std.specs.Cmp.Lexicographic.{slice_cmp}
use Rattle.certificate.specs.Good.{IsBefore}
use Rattle.hold_limits.proofs.KeyOrder.{slice_cmp_equal}
use Rattle.std.specs.List.{remove}
use Rattle.base_words.proofs.PairLemmas.{AllPairs-head, AllPairs-tail}

pub Contains-cons_cases : {X : Type 0} (x : X) (xs : List X) (y : X) → Contains (x ∷ xs) y → (x ≡ y) ⊎ Contains xs y
Contains-cons_cases x xs y inside = ⊎_elim
    (λ (first : Contains (x ∷ []) y). ⊎_elim (λ (none : Contains [] y). absurd (omega (arith, none.1))) (λ (is : x ≡ y). inl is) (Contains-push_cases [] x y first))
    (λ (later : Contains xs y). inr later)
    (Contains-append_cases (x ∷ []) xs y inside)

pub Contains-cons : {X : Type 0} (x : X) (xs : List X) → Contains (x ∷ xs) x
Contains-cons x xs = (0, omega arith, refl)

pub Contains-later : {X : Type 0} (x : X) (xs : List X) (y : X) → Contains xs y → Contains (x ∷ xs) y
Contains-later x xs y inside = Contains-append_right (x ∷ []) xs y inside

pub Contains-nil : {X : Type 0} (y : X) → Contains [] y → ⊥
Contains-nil y inside = absurd (omega (arith, inside.1))

-- what differs from each element is not one of them
pub not_contained : {X : Type 0} (x : X) (xs : List X) → All (λ y. x ≢ y) xs → Contains xs x → ⊥
not_contained x xs differ inside = All-contains (λ y. x ≢ y) xs x differ inside refl

-- a list of different elements that are all in another is no longer than that
pub length-within : {X : Type 0} (xs ys : List X) → AllPairs (λ x y. x ≢ y) xs → All (Contains ys) xs → length xs ≤ length ys
length-within [] ys different inside = omega arith
length-within {X} (x ∷ xs) ys different inside =
    let at = All-head (Contains ys) x xs inside in
    let moved : IsPermutation ys (x ∷ remove ys at.0) = IsPermutation-remove ys at.0 x at.1 (sym at.2) in
    let Differs : X → Type 0 = λ y. x ≢ y in
    let left : All (Contains (remove ys at.0)) xs = every xs (remove ys at.0) (AllPairs-head (λ a b. a ≢ b) x xs different)
    (All-weaker (Contains ys) (Contains (x ∷ remove ys at.0)) (λ y. Contains-permutation ys (x ∷ remove ys at.0) y moved) xs (All-tail (Contains ys) x xs inside)) in
    omega (arith, length_permutation ys (x ∷ remove ys at.0) moved, length-within xs (remove ys at.0) (AllPairs-tail (λ a b. a ≢ b) x xs different) left)
  where
    every : (zs rest : List X) → All (λ y. x ≢ y) zs → All (Contains (x ∷ rest)) zs → All (Contains rest) zs
    every [] rest differ given = All-nil (Contains rest)
    every (z ∷ zs) rest differ given = All-cons (Contains rest) z zs
        (⊎_elim
        (λ (is : x ≡ z). absurd (All-head (λ y. x ≢ y) z zs differ is))
        (λ (later : Contains rest z). later)
        (Contains-cons_cases x rest z (All-head (Contains (x ∷ rest)) z zs given)))
        (every zs rest (All-tail (λ y. x ≢ y) z zs differ) (All-tail (Contains (x ∷ rest)) z zs given))

pub AllPairs-append : {X : Type 0} (R : X → X → Type 0) (xs ys : List X) → AllPairs R xs → AllPairs R ys → All (λ x. All (R x) ys) xs → AllPairs R (xs ++ ys)
AllPairs-append R [] ys first second across = second
AllPairs-append {X} R (x ∷ xs) ys first second across =
    let P : X → Type 0 = λ x. All (R x) ys in
    AllPairs-cons R x (xs ++ ys)
    (All-append (R x) xs ys (AllPairs-head R x xs first) (All-head P x xs across))
    (AllPairs-append R xs ys (AllPairs-tail R x xs first) second (All-tail P x xs across))

-- what each element is, if it is one of them
pub All-from_contains : {X : Type 0} (P : X → Type 0) (xs : List X) → ((x : X) → Contains xs x → P x) → All P xs
All-from_contains P [] each = All-nil P
All-from_contains P (x ∷ xs) each = All-cons P x xs (each x (Contains-cons x xs)) (All-from_contains P xs (λ y inside. each y (Contains-later x xs y inside)))

-- no element of the first list is one of the second
pub apart-append : {X : Type 0} (xs ys : List X) (x : X) → AllPairs (λ a b. a ≢ b) (xs ++ ys) → Contains xs x → Contains ys x → ⊥
apart-append [] ys x different first second = Contains-nil x first
apart-append {X} (z ∷ xs) ys x different first second =
    ⊎_elim
    (λ (is : z ≡ x). not_contained z (xs ++ ys) (AllPairs-head (λ a b. a ≢ b) z (xs ++ ys) different) (subst (Contains (xs ++ ys)) (sym is) (Contains-append_right xs ys x second)))
    (λ (later : Contains xs x). apart-append xs ys x (AllPairs-tail (λ a b. a ≢ b) z (xs ++ ys) different) later second)
    (Contains-cons_cases z xs x first)

-- Of paths --------------------------------------------------------------------------------------

turned : (a b : List ℕ) → bytes_eq a b ≡ bytes_eq b a
turned a b = same_from_decides {P = a ≡ b} (bytes_eq a b) (bytes_eq b a) (bytes_eq-Decides a b)
    (λ same. sym ((bytes_eq-Decides b a).0 same), λ same. (bytes_eq-Decides b a).1 (sym same))

-- paths that differ still do in another order
pub different-permutation : (xs ys : List (List ℕ)) → IsPermutation xs ys → AllPairs (λ p q. p ≢ q) xs → AllPairs (λ p q. p ≢ q) ys
different-permutation xs ys moved different =
    AllPairs-from_IsDistinct bytes_eq-Decides ys (IsDistinct-IsPermutation bytes_eq turned xs ys moved (IsDistinct-from_AllPairs bytes_eq-Decides xs different))

before : (o p : Ordering) → o ≡ ordering_reverse p → is_lt p ≡ false → (p ≡ Equal → ⊥) → o ≡ Less
before o Less is not differ = absurd (true≢false not)
before o Equal is not differ = absurd (differ refl)
before o Greater is not differ = is

-- sorted paths that differ are in path order
pub rising-sorted : (xs : List (List ℕ)) → IsSorted (slice_cmp nat_cmp) xs → AllPairs (λ p q. p ≢ q) xs → AllPairs IsBefore xs
rising-sorted xs sorted different = λ i j d earlier within.
    let a = get_or xs i d in
    let b = get_or xs j d in
    before (slice_cmp nat_cmp a b) (slice_cmp nat_cmp b a) (nat_list_cmp_total.antisymm a b)
    (sorted_far (λ p q. is_lt (slice_cmp nat_cmp p q)) (ranks_by nat_list_cmp_total (λ (p : List ℕ). p)) xs sorted i j d (omega arith) within)
    (λ same. different i j d earlier within (sym (slice_cmp_equal b a same)))

-- a number more at the end of a list is known by the list
pub last-same : (a b : List ℕ) (p q : ℕ) → a ++ p ∷ [] ≡ b ++ q ∷ [] → (a ≡ b) × (p ≡ q)
last-same [] [] p q is = (refl, cc)
last-same [] (y ∷ b) p q is = absurd (omega (arith, ap length is, length-append b (q ∷ [])))
last-same (x ∷ a) [] p q is = absurd (omega (arith, ap length is, length-append a (p ∷ [])))
last-same (x ∷ a) (y ∷ b) p q is =
    let rest : a ++ p ∷ [] ≡ b ++ q ∷ [] = cc in
    let same = last-same a b p q rest in
    let head : x ≡ y = cc in
    (ap₂ (λ z zs. z ∷ zs) head same.0, same.1)

-- a list is empty, or another with a number at its end
pub last-or_none : (xs : List ℕ) → (xs ≡ []) ⊎ ((front : List ℕ) × (q : ℕ) × (xs ≡ front ++ q ∷ []))
last-or_none [] = inl refl
last-or_none (x ∷ xs) = inr (⊎_elim
    (λ (none : xs ≡ []). ([], x, ap (λ ys. x ∷ ys) none))
    (λ (some : (front : List ℕ) × (q : ℕ) × (xs ≡ front ++ q ∷ [])). (x ∷ some.0, some.1, ap (λ ys. x ∷ ys) some.2))
    (last-or_none xs))
