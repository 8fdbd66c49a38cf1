-- how great a distance can be
use Rattle.std.proofs.Common.{◌≡◌, ⊎_elim, ◌+◌, ◌≤◌, ℤ, true, false, arith}
use Rattle.std.proofs.lemmas.Bool.{cases_Bool}
use Rattle.std.proofs.lemmas.Int.{ints}
use Rattle.std.specs.Prelude.{unsigned_abs, int_lt}
use Rattle.hold_limits.specs.Placement.{distance_to}

-- it is at most the index and an end of the band together
pub distance_to-bounded : (low high x : ℤ) → unsigned_abs low ≤ 1000000000 → unsigned_abs high ≤ 1000000000 → distance_to low high x ≤ unsigned_abs x + 1000000000
distance_to-bounded low high x lo hi = ⊎_elim
    (λ (below : int_lt x low ≡ true). rw below (omega (arith, ints)))
    (λ (from : int_lt x low ≡ false). ⊎_elim
    (λ (above : int_lt high x ≡ true). rw (from, above) (omega (arith, ints)))
    (λ (to : int_lt high x ≡ false). rw (from, to) (omega arith))
    (cases_Bool (int_lt high x)))
    (cases_Bool (int_lt x low))
