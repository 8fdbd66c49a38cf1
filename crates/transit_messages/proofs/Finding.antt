-- The first element that passes a test, and lists whose elements are numbered.
use Rattle.std.proofs.Common.{◌≡◌, ℕ, ◌+◌, ◌<◌, Bool, true, false, zero, suc, List, [], ◌∷◌, length, map, get_or, Some, None, option_map, inl, inr, refl, sym, ap, subst, ◌∙◌, arith}
use Rattle.std.proofs.lemmas.Bool.{cases_Bool}
use Rattle.std.proofs.lemmas.List.{get_or-map, length-map}
use Rattle.std.proofs.lemmas.List.Elements.{All-head, All-tail}
use Rattle.std.proofs.lemmas.List.FromFn.{length-enumerate_from, get_or-enumerate_from}
use Rattle.std.specs.List.{enumerate_from}
use Rattle.std.specs.Prelude.{All, AllPairs, IfSome, find}
use Rattle.base_words.proofs.PairLemmas.{AllPairs-head, AllPairs-tail}

-- the first one that passes does so, and what holds of all holds of it
pub found-is : {X : Type 0} (test : X → Bool) (P : X → Type 0) (xs : List X) → All P xs → IfSome (find test xs) (λ x. (test x ≡ true) × P x)
found-is test P [] all = tt
found-is test P (x ∷ xs) all = elim (cases_Bool (test x)) [
  | inl passes ↦ rw passes (passes, All-head P x xs all)
  | inr fails ↦ rw fails (found-is test P xs (All-tail P x xs all))
]

pub find-map : {X Y : Type 0} (f : X → Y) (test : Y → Bool) (xs : List X) → find test (map f xs) ≡ option_map f (find (λ x. test (f x)) xs)
find-map f test [] = refl
find-map f test (x ∷ xs) = elim (cases_Bool (test (f x))) [
  | inl passes ↦ rw passes refl
  | inr fails ↦ rw fails (find-map f test xs)
]

pub found-none : {X : Type 0} (test : X → Bool) (xs : List X) → All (λ x. test x ≡ false) xs → find test xs ≡ None
found-none test [] all = refl
found-none test (x ∷ xs) all = rw (All-head (λ x. test x ≡ false) x xs all) (found-none test xs (All-tail (λ x. test x ≡ false) x xs all))

-- one that passes is the first, where no two pass
pub found-alone : {X : Type 0} (test : X → Bool) (xs : List X) (k : ℕ) (d : X) → AllPairs (λ a b. test a ≡ true → test b ≡ true → ⊥) xs → k < length xs
    → test (get_or xs k d) ≡ true → find test xs ≡ Some (get_or xs k d)
found-alone test [] k d apart within passes = absurd (omega (arith, within))
found-alone test (x ∷ xs) zero d apart within passes = rw passes refl
found-alone test (x ∷ xs) (suc k) d apart within passes =
    let later : k < length xs = omega (arith, within) in
    elim (cases_Bool (test x)) [
      | inl here ↦ absurd (AllPairs-head (λ a b. test a ≡ true → test b ≡ true → ⊥) x xs apart k d later here passes)
      | inr other ↦ rw other (found-alone test xs k d (AllPairs-tail (λ a b. test a ≡ true → test b ≡ true → ⊥) x xs apart) later passes)
    ]

-- what holds of each image holds of each element's
pub All-of_map : {X Y : Type 0} (P : Y → Type 0) (f : X → Y) (xs : List X) → All P (map f xs) → All (λ x. P (f x)) xs
All-of_map P f xs all k d within = subst P (get_or-map f xs k d (f d) within) (all k (f d) (omega (arith, within, length-map xs f)))

-- Numbered lists --------------------------------------------------------------------------------

numbered-get : {X : Type 0} (xs : List X) (i : ℕ) (d : ℕ × X) → i < length xs → get_or (enumerate_from 0 xs) i d ≡ (i, get_or xs i d.1)
numbered-get xs i d within =
    let counted : 0 + i ≡ i = omega arith in
    get_or-enumerate_from 0 xs i d within ∙ ap (λ n. (n, get_or xs i d.1)) counted

pub numbered-at : {X : Type 0} (xs : List X) (i : ℕ) (x : X) → i < length xs → x ≡ get_or xs i x → (i, x) ≡ get_or (enumerate_from 0 xs) i (i, x)
numbered-at xs i x within is = ap (λ y. (i, y)) is ∙ sym (numbered-get xs i (i, x) within)

pub numbered-length : {X : Type 0} (xs : List X) → length (enumerate_from 0 xs) ≡ length xs
numbered-length xs = length-enumerate_from 0 xs

pub numbered-within : {X : Type 0} (xs : List X) (i : ℕ) → i < length xs → i < length (enumerate_from 0 xs)
numbered-within xs i within = omega (arith, within, length-enumerate_from 0 xs)

pub told-at : {X Y : Type 0} (f : ℕ × X → Y) (xs : List X) (i : ℕ) (x : X) (d : Y) → i < length xs → get_or (map f (enumerate_from 0 xs)) i d ≡ f (i, get_or xs i x)
told-at f xs i x d within = get_or-map f (enumerate_from 0 xs) i (i, x) d (numbered-within xs i within) ∙ ap f (numbered-get xs i (i, x) within)

pub told-length : {X Y : Type 0} (f : ℕ × X → Y) (xs : List X) → length (map f (enumerate_from 0 xs)) ≡ length xs
told-length f xs = length-map (enumerate_from 0 xs) f ∙ length-enumerate_from 0 xs
