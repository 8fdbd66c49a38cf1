-- the bits of a set
use Rattle.std.proofs.Common.{◌≡◌, ◌⊎◌, ⊎_elim, inl, inr, nat_lt, ℕ, suc, ◌+◌, ◌-◌, ◌*◌, ◌/◌, ◌%◌, ◌^◌, ◌<◌, ◌≤◌, Bool, true, false, not, ◌&&◌, ◌||◌, ◌==◌, refl, ap, sym, ◌∙◌, arith, bit_and, bit_or, min, max, w64}
use Rattle.std.proofs.lemmas.Bool.{cases_Bool, false≢true, ltb-true, ltb-false}
use Rattle.std.proofs.lemmas.Bool.Decides.{nat_tests, eqb_tells}
use Rattle.std.proofs.lemmas.Nat.{leading_top}
use Rattle.std.proofs.lemmas.Nat.Bits.{bit_at-zero, bit_at-lt, bit_at_and, bit_at_or, bit_at_not, bit_at_set_same, bit_at_set_other, bit_at_above, bit_at-trailing_zeros, shr_and_one, bit_at_cat_high}
use Rattle.std.proofs.Math.Nat.{pow-suc}
use Rattle.std.specs.Int.{bit_at, bit_not, trailing_zeros, leading_zeros}
use Rattle.position_set.specs.declared.set.PositionSet.{PositionSet}
use Rattle.position_set.specs.Sets.{has}

pub lt-or-le : (a b : ℕ) → (a < b) ⊎ (b ≤ a)
lt-or-le a b = ⊎_elim (λ (less : nat_lt a b ≡ true). inl (ltb-true a b less)) (λ (not_less : nat_lt a b ≡ false). inr (ltb-false a b not_less)) (cases_Bool (nat_lt a b))

or-bits : (x y : ℕ) → x < 2 → y < 2 → (max x y == 1) ≡ ((x == 1) || (y == 1))
or-bits x y first second = grind (arith, nat_tests)

and-bits : (x y : ℕ) → x < 2 → y < 2 → (min x y == 1) ≡ ((x == 1) && (y == 1))
and-bits x y first second = grind (arith, nat_tests)

pub has-empty : (q : ℕ) → has record { 0 = 0 } q ≡ false
unfolding has
has-empty q = rw (bit_at-zero q) refl

pub has-union : (a b q : ℕ) → has record { 0 = bit_or a b } q ≡ (has record { 0 = a } q || has record { 0 = b } q)
unfolding has
has-union a b q = rw (bit_at_or a b q) (or-bits (bit_at a q) (bit_at b q) (bit_at-lt a q) (bit_at-lt b q))

pub has-intersection : (a b q : ℕ) → has record { 0 = bit_and a b } q ≡ (has record { 0 = a } q && has record { 0 = b } q)
unfolding has
has-intersection a b q = rw (bit_at_and a b q) (and-bits (bit_at a q) (bit_at b q) (bit_at-lt a q) (bit_at-lt b q))

-- a set has no number from 64 on
pub has-above : (a q : ℕ) → a < 2 ^ 64 → 64 ≤ q → has record { 0 = a } q ≡ false
unfolding has
has-above a q fits past = rw (bit_at_above a 64 q fits past) refl

not-bit : (x : ℕ) → x < 2 → ((1 - x) == 1) ≡ not (x == 1)
not-bit x few = grind (arith, nat_tests)

pub has-complement : (b q : ℕ) → b < 2 ^ 64 → q < 64 → has record { 0 = bit_not w64 b } q ≡ not (has record { 0 = b } q)
unfolding has
has-complement b q fits within = rw (bit_at_not w64 b q fits within) (not-bit (bit_at b q) (bit_at-lt b q))

and-none : (a b c : Bool) → a ≡ false → (a && b) ≡ (a && c)
and-none a b c is = rw is refl

pub has-difference : (a b q : ℕ) → a < 2 ^ 64 → b < 2 ^ 64 → has record { 0 = bit_and a (bit_not w64 b) } q ≡ (has record { 0 = a } q && not (has record { 0 = b } q))
has-difference a b q fits_a fits_b = has-intersection a (bit_not w64 b) q ∙ ⊎_elim
    (λ (within : q < 64). ap (λ c. has record { 0 = a } q && c) (has-complement b q fits_b within))
    (λ (past : 64 ≤ q). and-none (has record { 0 = a } q) _ _ (has-above a q fits_a past))
    (lt-or-le q 64)

pub has-with : (a k q : ℕ) → k < 64 → has record { 0 = bit_or a (1 * 2 ^ k % 2 ^ 64) } q ≡ (has record { 0 = a } q || (q == k))
unfolding has
has-with a k q within = ⊎_elim
    (λ same.
    let one : bit_at (bit_or a (1 * 2 ^ k % 2 ^ 64)) q ≡ 1 = ap (bit_at (bit_or a (1 * 2 ^ k % 2 ^ 64))) same.1 ∙ bit_at_set_same w64 a k within in
    rw (one, same.0) (sym (or-true (bit_at a q == 1))))
    (λ other. rw (bit_at_set_other w64 a k within q other.1, other.0) (sym (or-false (bit_at a q == 1))))
    (eqb_tells q k)
  where
    or-true : (x : Bool) → (x || true) ≡ true
    or-true true = refl
    or-true false = refl

    or-false : (x : Bool) → (x || false) ≡ x
    or-false true = refl
    or-false false = refl

pub has-contains : (a k : ℕ) → (bit_and (a / 2 ^ k) 1 == 1) ≡ has record { 0 = a } k
unfolding has
has-contains a k = ap (λ b. b == 1) (shr_and_one a k)

-- The least and the greatest --------------------------------------------------------------------

pub has-none : (set : PositionSet) → set.0 ≡ 0 → (q : ℕ) → has set q ≡ false
unfolding has
has-none set none q = rw none (rw (bit_at-zero q) refl)

not-one : (x : ℕ) → x ≡ 0 → (x == 1) ≡ true → ⊥
not-one x none one = false≢true (rw none at one)

pub first-is : (set : PositionSet) → 0 < set.0 → set.0 < 2 ^ 64
    → (trailing_zeros w64 set.0 < 64) × (has set (trailing_zeros w64 set.0) ≡ true) × ((q : ℕ) → has set q ≡ true → trailing_zeros w64 set.0 ≤ q)
unfolding has
first-is set some fits =
    let found = bit_at-trailing_zeros w64 set.0 some fits in (
      found.0,
      rw found.1 refl,
      λ q one. ⊎_elim (λ (lower : q < trailing_zeros w64 set.0). absurd (not-one (bit_at set.0 q) (found.2 q lower) one)) (λ from. from) (lt-or-le q (trailing_zeros w64 set.0)),
    )

pub last-is : (set : PositionSet) → 0 < set.0 → set.0 < 2 ^ 64
    → (63 - leading_zeros w64 set.0 < 64) × (has set (63 - leading_zeros w64 set.0) ≡ true) × ((q : ℕ) → has set q ≡ true → q ≤ 63 - leading_zeros w64 set.0)
unfolding has
last-is set some fits =
    let top = leading_top 64 set.0 some fits in
    let j : ℕ = top.0 in
    let at : 63 - leading_zeros w64 set.0 ≡ j = omega (arith, top.1) in
    let low : set.0 - 2 ^ j < 2 ^ j = omega (arith, top.2, top.3, suc-pow j) in
    let split : set.0 ≡ 1 * 2 ^ j + (set.0 - 2 ^ j) = omega (arith, top.2) in
    let one : bit_at set.0 j ≡ 1 = ap (λ n. bit_at n j) split ∙ bit_at_cat_high 1 j (set.0 - 2 ^ j) j low (omega arith) ∙ ap (bit_at 1) (sub-self j) in
    rw at (
      omega (arith, top.1),
      rw one refl,
      λ q is. ⊎_elim (λ (above : j < q). absurd (not-one (bit_at set.0 q) (bit_at_above set.0 (suc j) q top.3 (omega arith)) is)) (λ to. to) (lt-or-le j q),
    )
  where
    sub-self : (n : ℕ) → n - n ≡ 0
    sub-self n = omega arith

    suc-pow : (n : ℕ) → 2 ^ suc n ≡ 2 * 2 ^ n
    suc-pow n = omega (arith, pow-suc 2 n)
