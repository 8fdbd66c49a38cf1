-- a number is rounded to one whole number
use Rattle.std.proofs.Common.{◌≡◌, ℕ, ◌*◌, ◌≤◌, ℤ, pos, negsuc, ◌+ℤ◌, ◌-ℤ◌, ◌*ℤ◌, ◌<ℤ◌, ◌≤ℤ◌, arith}
use Rattle.std.specs.Prelude.{unsigned_abs}
use Rattle.std.proofs.lemmas.Int.{ints, by_lt_z}
use Rattle.mass_units.specs.Rounding.{IsRounded}
use Rattle.mass_units.proofs.LineLemmas.{times_le, times-add, times-one}

-- the multiples of two numbers lie a whole step apart
apart : (r q : ℤ) (d : ℕ) → r <ℤ q → ((r *ℤ pos d) +ℤ pos d) ≤ℤ (q *ℤ pos d)
apart r q d less =
    let more = times_le (r +ℤ pos 1) q d (omega (arith, ints, less)) in
    let sum = times-add r (pos 1) d in
    let one = times-one d in
    omega (arith, ints, more, sum, one)

none-times : (d : ℕ) → pos 0 *ℤ pos d ≡ pos 0
none-times d = omega (arith, ints)

-- how large a number is
large : (z : ℤ) → (z ≤ℤ pos (unsigned_abs z)) × ((pos 0 -ℤ z) ≤ℤ pos (unsigned_abs z))
large (pos n) = (omega (arith, ints), omega (arith, ints))
large (negsuc n) = (omega (arith, ints), omega (arith, ints))

above : (z : ℤ) → pos 0 ≤ℤ z → pos (unsigned_abs z) ≡ z
above (pos n) some = omega (arith, ints)
above (negsuc n) some = omega (arith, ints, some)

below : (z : ℤ) → z ≤ℤ pos 0 → pos (unsigned_abs z) ≡ (pos 0 -ℤ z)
below (pos n) some = omega (arith, ints, some)
below (negsuc n) some = omega (arith, ints)

-- two neighbouring multiples are not both the nearest, the further from zero of two that are equally near
half : (n a b : ℤ) (d : ℕ) → 1 ≤ d → (a +ℤ pos d) ≤ℤ b → 2 * unsigned_abs (a -ℤ n) ≤ d → 2 * unsigned_abs (b -ℤ n) ≤ d
    → (2 * unsigned_abs (a -ℤ n) ≡ d) × (2 * unsigned_abs (b -ℤ n) ≡ d) × ((a +ℤ pos d) ≡ b) × ((n +ℤ n) ≡ (a +ℤ b))
half n a b d some step near_a near_b =
    let one = large (a -ℤ n) in
    let two = large (b -ℤ n) in (
      omega (arith, ints, some, step, near_a, near_b, one.0, one.1, two.0, two.1),
      omega (arith, ints, some, step, near_a, near_b, one.0, one.1, two.0, two.1),
      omega (arith, ints, some, step, near_a, near_b, one.0, one.1, two.0, two.1),
      omega (arith, ints, some, step, near_a, near_b, one.0, one.1, two.0, two.1),
    )

-- the lower of the two is at or above zero: then it is nearer to zero than the number
over : (n a b : ℤ) (d : ℕ) → 1 ≤ d → (a +ℤ pos d) ≡ b → (n +ℤ n) ≡ (a +ℤ b) → pos 0 ≤ℤ a → unsigned_abs n ≤ unsigned_abs a → ⊥
over n a b d some step middle low near =
    let one = large n in
    let two = above a low in
    omega (arith, ints, some, step, middle, low, near, one.0, two)

under : (n a b : ℤ) (d : ℕ) → 1 ≤ d → (a +ℤ pos d) ≡ b → (n +ℤ n) ≡ (a +ℤ b) → b ≤ℤ pos 0 → unsigned_abs n ≤ unsigned_abs b → ⊥
under n a b d some step middle high near =
    let one = large n in
    let two = below b high in
    omega (arith, ints, some, step, middle, high, near, one.1, two)

not-lower : (n : ℤ) (d : ℕ) (r q : ℤ) → 1 ≤ d → IsRounded n d r → IsRounded n d q → r <ℤ q → ⊥
not-lower n d r q some one other less =
    let half = half n (r *ℤ pos d) (q *ℤ pos d) d some (apart r q d less) one.nearest other.nearest in
    by_lt_z r (pos 0)
    (λ negative. under n (r *ℤ pos d) (q *ℤ pos d) d some half.2 half.3
    (let low = apart r (pos 0) d negative in let none = none-times d in let step = half.2 in omega (arith, ints, low, none, step)) (other.away half.1))
    (λ positive. over n (r *ℤ pos d) (q *ℤ pos d) d some half.2 half.3
    (let high = times_le (pos 0) r d positive in let none = none-times d in omega (arith, ints, high, none)) (one.away half.0))

-- a number has one nearest whole number
pub rounded-once : (n : ℤ) (d : ℕ) (r q : ℤ) → 1 ≤ d → IsRounded n d r → IsRounded n d q → r ≡ q
rounded-once n d r q some one other =
    by_lt_z r q (λ less. absurd (not-lower n d r q some one other less))
    (λ least. by_lt_z q r (λ less. absurd (not-lower n d q r some other one less)) (λ most. omega (arith, ints, least, most)))
