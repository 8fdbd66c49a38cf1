-- Sums of whole numbers: added, multiplied and exchanged.
use Rattle.std.proofs.Common.{◌≡◌, ℕ, zero, suc, ℤ, pos, ◌+ℤ◌, ◌*ℤ◌, List, [], ◌∷◌, refl, sym, arith}
use Rattle.std.specs.Prelude.{◌≤ℤ◌, sum_by}
use Rattle.std.specs.List.{AllByRecursion}
use Rattle.std.proofs.lemmas.Int.{ints}
use Rattle.std.proofs.lemmas.List.Sums.{sum_by-cons}
use Rattle.std.proofs.Math.IntN.{suc_ℤ-*ℤ, zero-*ℤ}
use Rattle.base_words.specs.Lists.{int_sum_by}

pub times-suc : (n : ℕ) (z : ℤ) → pos (suc n) *ℤ z ≡ pos n *ℤ z +ℤ z
times-suc n z = suc_ℤ-*ℤ (pos n) z

pub times-add : (n : ℕ) (a b : ℤ) → pos n *ℤ (a +ℤ b) ≡ pos n *ℤ a +ℤ pos n *ℤ b
times-add zero a b = omega (arith, ints, zero-*ℤ (a +ℤ b), zero-*ℤ a, zero-*ℤ b)
times-add (suc n) a b = omega (arith, ints, times-suc n (a +ℤ b), times-suc n a, times-suc n b, times-add n a b)

pub times-le : (n : ℕ) (a b : ℤ) → a ≤ℤ b → (pos n *ℤ a) ≤ℤ (pos n *ℤ b)
times-le zero a b le = omega (arith, ints, zero-*ℤ a, zero-*ℤ b)
times-le (suc n) a b le = omega (arith, ints, times-suc n a, times-suc n b, times-le n a b le)

pub times-zero : (n : ℕ) → pos n *ℤ pos 0 ≡ pos 0
times-zero zero = omega (arith, ints, zero-*ℤ (pos 0))
times-zero (suc n) = omega (arith, ints, times-suc n (pos 0), times-zero n)

pub sum-add : {X : Type 0} (f g : X → ℤ) (xs : List X) → int_sum_by (λ x. f x +ℤ g x) xs ≡ int_sum_by f xs +ℤ int_sum_by g xs
sum-add f g [] = omega (arith, ints)
sum-add f g (x ∷ xs) = omega (arith, ints, sum-add f g xs)

pub sum-times : {X : Type 0} (n : ℕ) (f : X → ℤ) (xs : List X) → int_sum_by (λ x. pos n *ℤ f x) xs ≡ pos n *ℤ int_sum_by f xs
sum-times n f [] = sym (times-zero n)
sum-times n f (x ∷ xs) = omega (arith, ints, sum-times n f xs, times-add n (f x) (int_sum_by f xs))

pub sum-zero : {X : Type 0} (xs : List X) → int_sum_by (λ (x : X). pos 0) xs ≡ pos 0
sum-zero [] = refl
sum-zero (x ∷ xs) = omega (arith, ints, sum-zero xs)

-- a sum of prices times what is taken, by containers and by resources
pub sum-exchange : {X R : Type 0} (price : R → ℕ) (taken : R → X → ℤ) (xs : List X) (rs : List R)
    → int_sum_by (λ x. int_sum_by (λ r. pos (price r) *ℤ taken r x) rs) xs ≡ int_sum_by (λ r. pos (price r) *ℤ int_sum_by (taken r) xs) rs
sum-exchange price taken xs [] = sum-zero xs
sum-exchange price taken xs (r ∷ rs) = omega (
  arith,
  ints,
  sum-add (λ x. pos (price r) *ℤ taken r x) (λ x. int_sum_by (λ r. pos (price r) *ℤ taken r x) rs) xs,
  sum-times (price r) (taken r) xs,
  sum-exchange price taken xs rs,
)

pub sum-natural : {X : Type 0} (f : X → ℕ) (xs : List X) → int_sum_by (λ x. pos (f x)) xs ≡ pos (sum_by f xs)
sum-natural f [] = refl
sum-natural f (x ∷ xs) = omega (arith, ints, sum-natural f xs, sum_by-cons f x xs)

-- prices times what is taken are at most prices times what there is
pub sum-le : {R : Type 0} (price : R → ℕ) (f g : R → ℤ) (rs : List R) → AllByRecursion (λ r. f r ≤ℤ g r) rs
    → int_sum_by (λ r. pos (price r) *ℤ f r) rs ≤ℤ int_sum_by (λ r. pos (price r) *ℤ g r) rs
sum-le price f g [] each = omega (arith, ints)
sum-le price f g (r ∷ rs) each = omega (arith, ints, times-le (price r) (f r) (g r) each.0, sum-le price f g rs each.1)
