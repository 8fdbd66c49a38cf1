-- Sums of whole numbers over the first elements of a list.
use Rattle.std.proofs.Common.{◌≡◌, ℕ, ◌+◌, ◌<◌, ℤ, ◌+ℤ◌, List, [], ◌∷◌, ◌++◌, length, get_or, take, ap, ◌∙◌, arith}
use Rattle.std.proofs.lemmas.Int.{ints}
use Rattle.std.proofs.lemmas.List.{take_more}
use Rattle.base_words.specs.Lists.{int_sum_by}

pub int_sum_by-push : {X : Type 0} (f : X → ℤ) (xs : List X) (x : X) → int_sum_by f (xs ++ x ∷ []) ≡ int_sum_by f xs +ℤ f x
int_sum_by-push f [] x = omega (arith, ints)
int_sum_by-push f (y ∷ xs) x = omega (arith, ints, int_sum_by-push f xs x)

pub int_sum_by-more : {X : Type 0} (f : X → ℤ) (xs : List X) (i : ℕ) (d : X) → i < length xs
    → int_sum_by f (take (i + 1) xs) ≡ int_sum_by f (take i xs) +ℤ f (get_or xs i d)
int_sum_by-more f xs i d within = ap (int_sum_by f) (take_more xs i d within) ∙ int_sum_by-push f (take i xs) (get_or xs i d)
