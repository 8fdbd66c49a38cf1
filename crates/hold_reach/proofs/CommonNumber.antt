-- two ranges have a number in common where each begins before the other ends
use Rattle.std.proofs.Common.{⊎_elim, ℤ, ◌≤ℤ◌, ◌≡◌, true, false, arith, int_lt}
use Rattle.std.proofs.lemmas.Bool.{cases_Bool}
use Rattle.std.proofs.lemmas.Int.{ints}
use Rattle.hold_reach.specs.Reach.{HaveCommonNumber}

pub common-from : (a b c d : ℤ) → a ≤ℤ b → a ≤ℤ d → c ≤ℤ b → c ≤ℤ d → HaveCommonNumber a b c d
common-from a b c d ab ad cb cd = ⊎_elim
    (λ (above : int_lt a c ≡ true). record { number = c; from_a = omega (arith, ints); to_b = cb; from_c = omega (arith, ints); to_d = cd })
    (λ (not : int_lt a c ≡ false). record { number = a; from_a = omega (arith, ints); to_b = ab; from_c = omega (arith, ints); to_d = ad })
    (cases_Bool (int_lt a c))

pub common-bounds : (a b c d : ℤ) → HaveCommonNumber a b c d → (a ≤ℤ b) × (a ≤ℤ d) × (c ≤ℤ b) × (c ≤ℤ d)
common-bounds a b c d common = (omega (arith, ints), omega (arith, ints), omega (arith, ints), omega (arith, ints))
