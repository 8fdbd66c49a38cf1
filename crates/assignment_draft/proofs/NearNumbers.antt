-- numbers near 0 as the code reads them
use Rattle.std.proofs.Common.{◌≡◌, ℕ, ◌<◌, ◌^◌, true, false, w64, to_z, of_z, FitsSigned, arith}
use Rattle.std.specs.Prelude.{ℤ, ◌≤ℤ◌, int_lt}
use Rattle.std.proofs.lemmas.Int.{ints, to_z-of_z}
use Rattle.assignment.specs.Prices.{price_at}
use Rattle.assignment.specs.Tables.{IsWithin}
use Rattle.assignment_draft.specs.declared.prices.Prices.{Prices}
use Rattle.assignment_draft.specs.Drafts.{AreSound}

-- the number fits
pub fits : (most : ℕ) (number : ℤ) → most < 2 ^ 63 → IsWithin most number → FitsSigned w64 number
fits most number small near = omega (arith, ints, small, near.above, near.below)

pub read : (most : ℕ) (number : ℤ) → most < 2 ^ 63 → IsWithin most number → to_z w64 (of_z w64 number) ≡ number
read most number small near = to_z-of_z w64 number (fits most number small near)

pub is-less : (one other : ℤ) → int_lt one other ≡ true → one ≤ℤ other
is-less one other less = grind (arith, ints)

pub is-not-less : (one other : ℤ) → int_lt one other ≡ false → other ≤ℤ one
is-not-less one other not_less = grind (arith, ints)

module _ (prices : Prices) (sound : AreSound prices) where
  pub read-item : (number : ℕ) → to_z w64 (of_z w64 (price_at prices.items.items number)) ≡ price_at prices.items.items number
  read-item number = let near = sound.items number in to_z-of_z w64 (price_at prices.items.items number) (omega (arith, ints, near.above, near.below))

  pub read-place : (position : ℕ) → to_z w64 (of_z w64 (price_at prices.places.items position)) ≡ price_at prices.places.items position
  read-place position = let near = sound.places position in to_z-of_z w64 (price_at prices.places.items position) (omega (arith, ints, near.above, near.below))
