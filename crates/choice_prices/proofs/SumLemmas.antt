-- sums of whole numbers over lists that are joined or mapped, and products by natural numbers
use Rattle.std.proofs.Common.{◌≡◌, ℕ, zero, suc, ℤ, pos, ◌+ℤ◌, ◌-ℤ◌, ◌*ℤ◌, List, [], ◌∷◌, ◌++◌, map, refl, arith}
use Rattle.std.proofs.lemmas.Int.{ints}
use Rattle.std.proofs.Math.IntN.{zero-*ℤ}
use Rattle.base_words.specs.Lists.{int_sum_by}
use Rattle.price_trees.proofs.SignedSums.{times-suc, times-add, times-zero}

-- Products --------------------------------------------------------------------------------------

pub times-minus : (n : ℕ) (z : ℤ) → pos n *ℤ (pos 0 -ℤ z) ≡ pos 0 -ℤ pos n *ℤ z
times-minus zero z = omega (arith, ints, zero-*ℤ z, zero-*ℤ (pos 0 -ℤ z))
times-minus (suc n) z = omega (arith, ints, times-suc n z, times-suc n (pos 0 -ℤ z), times-minus n z)

pub times-swap : (m n : ℕ) (z : ℤ) → pos m *ℤ (pos n *ℤ z) ≡ pos n *ℤ (pos m *ℤ z)
times-swap zero n z = rw (zero-*ℤ (pos n *ℤ z), zero-*ℤ z, times-zero n) refl
times-swap (suc m) n z = omega (arith, ints, times-suc m (pos n *ℤ z), again m n z, times-add n (pos m *ℤ z) z, times-swap m n z)
  where
    again : (m n : ℕ) (z : ℤ) → pos n *ℤ (pos (suc m) *ℤ z) ≡ pos n *ℤ (pos m *ℤ z +ℤ z)
    again m n z = rw (times-suc m z) refl

-- Sums ------------------------------------------------------------------------------------------

pub sum-append : {X : Type 0} (f : X → ℤ) (xs ys : List X) → int_sum_by f (xs ++ ys) ≡ int_sum_by f xs +ℤ int_sum_by f ys
sum-append f [] ys = omega (arith, ints)
sum-append f (x ∷ xs) ys = omega (arith, ints, sum-append f xs ys)

pub sum-map : {X Y : Type 0} (f : Y → ℤ) (g : X → Y) (xs : List X) → int_sum_by f (map g xs) ≡ int_sum_by (λ x. f (g x)) xs
sum-map f g [] = refl
sum-map f g (x ∷ xs) = omega (arith, ints, sum-map f g xs)

pub sum-same : {X : Type 0} (f g : X → ℤ) → ((x : X) → f x ≡ g x) → (xs : List X) → int_sum_by f xs ≡ int_sum_by g xs
sum-same f g same [] = refl
sum-same f g same (x ∷ xs) = omega (arith, ints, same x, sum-same f g same xs)

-- prices of what is not taken
pub sum-nothing : {X : Type 0} (price : X → ℕ) (xs : List X) → int_sum_by (λ x. pos (price x) *ℤ pos 0) xs ≡ pos 0
sum-nothing price [] = refl
sum-nothing price (x ∷ xs) = omega (arith, ints, times-zero (price x), sum-nothing price xs)
