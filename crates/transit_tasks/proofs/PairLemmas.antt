-- what holds of the elements of a list and of each two of them, under `++`, `map` and `zip`
use Rattle.std.proofs.Common.{◌≡◌, ⊎_elim, ℕ, ◌+◌, ◌<◌, ◌≤◌, Bool, true, false, ◌||◌, List, [], ◌∷◌, ◌++◌, length, get_or, take, map, zip, refl, ap, sym, ◌∙◌, subst, arith}
use Rattle.std.proofs.lemmas.Bool.{cases_Bool, false≢true}
use Rattle.std.proofs.lemmas.List.{take_more}
use Rattle.std.proofs.lemmas.List.Elements.{All-cons, All-head, All-tail, All-append, All-nil, All-map, filter-append}
use Rattle.std.proofs.lemmas.List.Kept.{AllPairs-cons}
use Rattle.std.specs.Prelude.{All, AllPairs, filter}
use Rattle.std.specs.List.{list_any}
use Rattle.base_words.proofs.PairLemmas.{AllPairs-head, AllPairs-tail}

-- Lists joined ----------------------------------------------------------------------------------

pub All-back : {X : Type 0} (P : X → Type 0) (xs ys : List X) → All P (xs ++ ys) → All P ys
All-back P [] ys all = all
All-back P (x ∷ xs) ys all = All-back P xs ys (All-tail P x (xs ++ ys) all)

pub AllPairs-back : {X : Type 0} (R : X → X → Type 0) (xs ys : List X) → AllPairs R (xs ++ ys) → AllPairs R ys
AllPairs-back R [] ys pairs = pairs
AllPairs-back R (x ∷ xs) ys pairs = AllPairs-back R xs ys (AllPairs-tail R x (xs ++ ys) pairs)

-- each of the first list stands in the relation to each of the second
pub AllPairs-across : {X : Type 0} (R : X → X → Type 0) (xs ys : List X) → AllPairs R (xs ++ ys) → All (λ x. All (R x) ys) xs
AllPairs-across R [] ys pairs = All-nil (λ x. All (R x) ys)
AllPairs-across R (x ∷ xs) ys pairs =
    All-cons (λ x. All (R x) ys) x xs
    (All-back (R x) xs ys (AllPairs-head R x (xs ++ ys) pairs))
    (AllPairs-across R xs ys (AllPairs-tail R x (xs ++ ys) pairs))

pub AllPairs-append : {X : Type 0} (R : X → X → Type 0) (xs ys : List X) → AllPairs R xs → AllPairs R ys → All (λ x. All (R x) ys) xs → AllPairs R (xs ++ ys)
AllPairs-append R [] ys first second across = second
AllPairs-append R (x ∷ xs) ys first second across =
    AllPairs-cons R x (xs ++ ys)
    (All-append (R x) xs ys (AllPairs-head R x xs first) (All-head (λ x. All (R x) ys) x xs across))
    (AllPairs-append R xs ys (AllPairs-tail R x xs first) second (All-tail (λ x. All (R x) ys) x xs across))

-- Images ----------------------------------------------------------------------------------------

pub All-from_map : {X Y : Type 0} (P : Y → Type 0) (f : X → Y) (xs : List X) → All P (map f xs) → All (λ x. P (f x)) xs
All-from_map P f [] all = All-nil (λ x. P (f x))
All-from_map P f (x ∷ xs) all = All-cons (λ x. P (f x)) x xs (All-head P (f x) (map f xs) all) (All-from_map P f xs (All-tail P (f x) (map f xs) all))

pub AllPairs-from_map : {X Y : Type 0} (R : Y → Y → Type 0) (f : X → Y) (xs : List X) → AllPairs R (map f xs) → AllPairs (λ a b. R (f a) (f b)) xs
AllPairs-from_map R f [] pairs = λ i j d before within. absurd (omega arith)
AllPairs-from_map R f (x ∷ xs) pairs =
    AllPairs-cons (λ a b. R (f a) (f b)) x xs
    (All-from_map (R (f x)) f xs (AllPairs-head R (f x) (map f xs) pairs))
    (AllPairs-from_map R f xs (AllPairs-tail R (f x) (map f xs) pairs))

pub AllPairs-map : {X Y : Type 0} (R : Y → Y → Type 0) (f : X → Y) (xs : List X) → AllPairs (λ a b. R (f a) (f b)) xs → AllPairs R (map f xs)
AllPairs-map R f [] pairs = λ i j d before within. absurd (omega arith)
AllPairs-map R f (x ∷ xs) pairs =
    AllPairs-cons R (f x) (map f xs)
    (All-map (R (f x)) f xs (AllPairs-head (λ a b. R (f a) (f b)) x xs pairs))
    (AllPairs-map R f xs (AllPairs-tail (λ a b. R (f a) (f b)) x xs pairs))

-- A list beside one that is at least as long ----------------------------------------------------

second-is : {X Y : Type 0} (xs : List X) (ys : List Y) → length ys ≤ length xs → map (λ (p : X × Y). p.1) (zip xs ys) ≡ ys
second-is [] [] short = refl
second-is (x ∷ xs) [] short = refl
second-is [] (y ∷ ys) short = absurd (omega arith)
second-is (x ∷ xs) (y ∷ ys) short = ap (λ zs. y ∷ zs) (second-is xs ys (omega arith))

pub AllPairs-zip : {X Y : Type 0} (R : Y → Y → Type 0) (xs : List X) (ys : List Y) → length ys ≤ length xs → AllPairs R ys → AllPairs (λ (a b : X × Y). R a.1 b.1) (zip xs ys)
AllPairs-zip {X} {Y} R xs ys short pairs =
    AllPairs-from_map R (λ (p : X × Y). p.1) (zip xs ys) (subst (AllPairs R) (sym (second-is xs ys short)) pairs)

pub AllPairs-from_zip : {X Y : Type 0} (R : Y → Y → Type 0) (xs : List X) (ys : List Y) → length ys ≤ length xs → AllPairs (λ (a b : X × Y). R a.1 b.1) (zip xs ys) → AllPairs R ys
AllPairs-from_zip {X} {Y} R xs ys short pairs =
    subst (AllPairs R) (second-is xs ys short) (AllPairs-map R (λ (p : X × Y). p.1) (zip xs ys) pairs)

pub All-from_zip : {X Y : Type 0} (P : Y → Type 0) (xs : List X) (ys : List Y) → length ys ≤ length xs → All (λ (p : X × Y). P p.1) (zip xs ys) → All P ys
All-from_zip {X} {Y} P xs ys short all =
    subst (All P) (second-is xs ys short) (All-map P (λ (p : X × Y). p.1) (zip xs ys) all)

-- Tests -----------------------------------------------------------------------------------------

-- what passes the filter is all that passes the test
pub list_any-filter : {X : Type 0} (p q : X → Bool) → ((x : X) → p x ≡ true → q x ≡ true) → (xs : List X) → list_any p (filter q xs) ≡ list_any p xs
list_any-filter p q passes [] = refl
list_any-filter p q passes (x ∷ xs) = ⊎_elim
    (λ (kept : q x ≡ true). rw kept (ap (λ b. p x || b) (list_any-filter p q passes xs)))
    (λ (out : q x ≡ false). ⊎_elim
    (λ (is : p x ≡ true). absurd (false≢true (sym out ∙ passes x is)))
    (λ (not : p x ≡ false). rw (out, not) (list_any-filter p q passes xs))
    (cases_Bool (p x)))
    (cases_Bool (q x))

pub list_any-map : {X Y : Type 0} (p : Y → Bool) (f : X → Y) (xs : List X) → list_any p (map f xs) ≡ list_any (λ x. p (f x)) xs
list_any-map p f [] = refl
list_any-map p f (x ∷ xs) = ap (λ b. p (f x) || b) (list_any-map p f xs)

pub length-filter_few : {X : Type 0} (p : X → Bool) (xs : List X) → length (filter p xs) ≤ length xs
length-filter_few p [] = omega arith
length-filter_few p (x ∷ xs) = ⊎_elim
    (λ (kept : p x ≡ true). rw kept (omega (arith, length-filter_few p xs)))
    (λ (out : p x ≡ false). rw out (omega (arith, length-filter_few p xs)))
    (cases_Bool (p x))

-- what passes of the first elements, and of one more
pub filter-next : {X : Type 0} (p : X → Bool) (xs : List X) (i : ℕ) (d : X) (kept : List X) → i < length xs → kept ≡ filter p (take i xs)
    → kept ++ filter p (get_or xs i d ∷ []) ≡ filter p (take (i + 1) xs)
filter-next p xs i d kept within is =
    ap (λ ys. ys ++ filter p (get_or xs i d ∷ [])) is
    ∙ sym (ap (filter p) (take_more xs i d within) ∙ filter-append p (take i xs) (get_or xs i d ∷ []))
