-- Whole numbers times a count, and quotients rounded down.
use Rattle.std.proofs.Common.{◌≡◌, ℕ, zero, suc, ◌+◌, ◌-◌, ◌*◌, ◌/◌, ◌%◌, ◌<◌, ◌≤◌, ◌↔◌, add-zero, add-suc, refl, ap, sym, ◌∙◌, arith, ℤ, pos, negsuc, neg_ℤ, ◌+ℤ◌, ◌-ℤ◌, ◌*ℤ◌, ◌≤ℤ◌, ◌<ℤ◌, ◌^◌, FitsSigned, unsigned_abs}
use Rattle.std.specs.Int.{int_div_euclid, w64, w128}
use mir.Val.{to_z, of_z}
use Rattle.std.proofs.lemmas.Int.{ints, to_z-of_z, fits_signed_from_abs, by_lt_z}
use Rattle.std.specs.Int.Signed.{≤ℤ_refl}
use Rattle.std.proofs.Math.IntN.{*ℤ_comm, suc_ℤ-*ℤ, *ℤ-zero, zero-*ℤ, +ℤ_idl, negsuc-*ℤ-pos}
use Rattle.std.proofs.Math.Nat.{mul_comm}

pub times-suc : (a : ℤ) (n : ℕ) → a *ℤ pos (suc n) ≡ (a *ℤ pos n) +ℤ a
times-suc a n = *ℤ_comm a (pos (suc n)) ∙ suc_ℤ-*ℤ (pos n) a ∙ ap (λ x. x +ℤ a) (*ℤ_comm (pos n) a)

pub times_le : (a b : ℤ) (n : ℕ) → a ≤ℤ b → (a *ℤ pos n) ≤ℤ (b *ℤ pos n)
times_le a b zero h = rw (*ℤ-zero a, *ℤ-zero b) (omega (arith, ints))
times_le a b (suc n) h = let ih = times_le a b n h in rw (times-suc a n, times-suc b n) (omega (arith, ints))

pub times_lt : (a b : ℤ) (n : ℕ) → (a *ℤ pos n) <ℤ (b *ℤ pos n) → a <ℤ b
times_lt a b n h = grind (arith, ints, times_le b a n)

pub times-add : (a b : ℤ) (n : ℕ) → (a +ℤ b) *ℤ pos n ≡ (a *ℤ pos n) +ℤ (b *ℤ pos n)
times-add a b zero = rw (*ℤ-zero (a +ℤ b), *ℤ-zero a, *ℤ-zero b) refl
times-add a b (suc n) = let ih = times-add a b n in rw (times-suc (a +ℤ b) n, times-suc a n, times-suc b n) (omega (arith, ints))

pub times-sub : (a b : ℤ) (n : ℕ) → (a -ℤ b) *ℤ pos n ≡ (a *ℤ pos n) -ℤ (b *ℤ pos n)
times-sub a b zero = rw (*ℤ-zero (a -ℤ b), *ℤ-zero a, *ℤ-zero b) refl
times-sub a b (suc n) = let ih = times-sub a b n in rw (times-suc (a -ℤ b) n, times-suc a n, times-suc b n) (omega (arith, ints))

pub times-sum : (a : ℤ) (m n : ℕ) → a *ℤ pos (m + n) ≡ (a *ℤ pos m) +ℤ (a *ℤ pos n)
times-sum a m zero = rw (*ℤ-zero a, add-zero m) (omega (arith, ints))
times-sum a m (suc n) = let ih = times-sum a m n in rw (add-suc m n, times-suc a (m + n), times-suc a n) (omega (arith, ints))

pub times-one : (n : ℕ) → pos 1 *ℤ pos n ≡ pos n
times-one n = omega (arith, ints)

pub quotient_down : (n : ℤ) (d : ℕ) → 0 < d → ((int_div_euclid n (pos d) *ℤ pos d) ≤ℤ n) × (n <ℤ ((int_div_euclid n (pos d) *ℤ pos d) +ℤ pos d))
quotient_down (pos a) d more = grind (arith, ints)
quotient_down (negsuc a) d more =
    let whole : d * (a / d) + a % d ≡ a = omega arith in
    rw (negsuc-*ℤ-pos (a / d) d) (omega (arith, ints, mul_comm), omega (arith, ints))

-- the quotient rounded down is the greatest number that goes so often into n
pub quotient_is : (n : ℤ) (d : ℕ) → 0 < d → (z : ℤ) → ((z *ℤ pos d) ≤ℤ n) ↔ (z ≤ℤ int_div_euclid n (pos d))
quotient_is n d more z =
    let q : ℤ = int_div_euclid n (pos d) in
    let bounds = quotient_down n d more in
    let next : (q +ℤ pos 1) *ℤ pos d ≡ (q *ℤ pos d) +ℤ pos d = times-add q (pos 1) d ∙ ap (λ x. (q *ℤ pos d) +ℤ x) (times-one d) in (
      λ h. let below : z <ℤ (q +ℤ pos 1) = times_lt z (q +ℤ pos 1) d (rw next (omega (arith, ints, bounds.1))) in omega (arith, ints),
      λ h. omega (arith, ints, times_le z q d h, bounds.0),
    )

-- a number at most 0, times less
pub times_low : (b : ℤ) (p d : ℕ) → p ≤ d → b ≤ℤ pos 0 → (b *ℤ pos d) ≤ℤ (b *ℤ pos p)
times_low b p d within below =
    let split : p + (d - p) ≡ d = omega arith in
    let rest : (b *ℤ pos (d - p)) ≤ℤ (pos 0 *ℤ pos (d - p)) = times_le b (pos 0) (d - p) below in
    let whole : b *ℤ pos d ≡ (b *ℤ pos p) +ℤ (b *ℤ pos (d - p)) = ap (λ x. b *ℤ pos x) (sym split) ∙ times-sum b p (d - p) in
    let none : pos 0 *ℤ pos (d - p) ≡ pos 0 = zero-*ℤ (pos (d - p)) in
    omega (arith, ints)

-- a number at least 0, times more
pub times_high : (b : ℤ) (p d : ℕ) → p ≤ d → pos 0 ≤ℤ b → (b *ℤ pos p) ≤ℤ (b *ℤ pos d)
times_high b p d within above =
    let split : p + (d - p) ≡ d = omega arith in
    let rest : (pos 0 *ℤ pos (d - p)) ≤ℤ (b *ℤ pos (d - p)) = times_le (pos 0) b (d - p) above in
    let whole : b *ℤ pos d ≡ (b *ℤ pos p) +ℤ (b *ℤ pos (d - p)) = ap (λ x. b *ℤ pos x) (sym split) ∙ times-sum b p (d - p) in
    let none : pos 0 *ℤ pos (d - p) ≡ pos 0 = zero-*ℤ (pos (d - p)) in
    omega (arith, ints)

-- a part of n lies between 0 and n
pub share_low : (n b : ℤ) (p d : ℕ) → 0 < d → p ≤ d → b ≤ℤ pos 0 → b ≤ℤ n → b ≤ℤ int_div_euclid (n *ℤ pos p) (pos d)
share_low n b p d more within below h =
    (quotient_is (n *ℤ pos p) d more b).0 (omega (arith, ints, times_low b p d within below, times_le b n p h))

pub share_high : (n b : ℤ) (p d : ℕ) → 0 < d → p ≤ d → pos 0 ≤ℤ b → n ≤ℤ b → int_div_euclid (n *ℤ pos p) (pos d) ≤ℤ b
share_high n b p d more within above h =
    let q : ℤ = int_div_euclid (n *ℤ pos p) (pos d) in
    let low = (quotient_down (n *ℤ pos p) d more).0 in
    let next : (b +ℤ pos 1) *ℤ pos d ≡ (b *ℤ pos d) +ℤ pos d = times-add b (pos 1) d ∙ ap (λ x. (b *ℤ pos d) +ℤ x) (times-one d) in
    let below : q <ℤ (b +ℤ pos 1) = times_lt q (b +ℤ pos 1) d (rw next (omega (arith, ints, low, times_le n b p h, times_high b p d within above))) in
    omega (arith, ints)

-- ---- a start and a share of the way to the end

-- s is at least each b at most 0 that r is at least, and at most each b at least 0 that r is at most
pub record IsShareOf (r s : ℤ) : Type 0 where
  pub low : (b : ℤ) → b ≤ℤ pos 0 → b ≤ℤ r → b ≤ℤ s
  pub high : (b : ℤ) → pos 0 ≤ℤ b → r ≤ℤ b → s ≤ℤ b

fits_between : (z : ℤ) → neg_ℤ (pos (2 ^ 63)) ≤ℤ z → z ≤ℤ pos (2 ^ 63 - 1) → FitsSigned w64 z
fits_between (pos n) low high = record { sfits = omega (arith, ints) }
fits_between (negsuc n) low high = record { sfits = omega (arith, ints) }

-- between two indices of the type lie indices of the type
pub rise_fits : (a b s : ℤ) → FitsSigned w64 a → FitsSigned w64 b → IsShareOf (b -ℤ a) s → FitsSigned w64 (a +ℤ s)
rise_fits a b s fits_a fits_b share =
    let low = share.low (neg_ℤ (pos (2 ^ 63)) -ℤ a) (omega (arith, ints, fits_a.sfits)) (omega (arith, ints, fits_b.sfits)) in
    let high = share.high (pos (2 ^ 63 - 1) -ℤ a) (omega (arith, ints, fits_a.sfits)) (omega (arith, ints, fits_b.sfits)) in
    fits_between (a +ℤ s) (omega (arith, ints)) (omega (arith, ints))

pub fall_fits : (a b s : ℤ) → FitsSigned w64 a → FitsSigned w64 b → IsShareOf (a -ℤ b) s → FitsSigned w64 (a -ℤ s)
fall_fits a b s fits_a fits_b share =
    let low = share.low (a -ℤ pos (2 ^ 63 - 1)) (omega (arith, ints, fits_a.sfits)) (omega (arith, ints, fits_b.sfits)) in
    let high = share.high (a +ℤ pos (2 ^ 63)) (omega (arith, ints, fits_a.sfits)) (omega (arith, ints, fits_b.sfits)) in
    fits_between (a -ℤ s) (omega (arith, ints)) (omega (arith, ints))

pub floor_is : (a x s : ℤ) (d : ℕ) → ((z : ℤ) → ((z *ℤ pos d) ≤ℤ x) ↔ (z ≤ℤ s)) → (z : ℤ) → (((z -ℤ a) *ℤ pos d) ≤ℤ x) ↔ (z ≤ℤ (a +ℤ s))
floor_is a x s d down z =
    (λ h. let k = (down (z -ℤ a)).0 h in omega (arith, ints), λ h. (down (z -ℤ a)).1 (omega (arith, ints)))

pub ceil_is : (a b s : ℤ) (p d : ℕ) → ((z : ℤ) → ((z *ℤ pos d) ≤ℤ ((a -ℤ b) *ℤ pos p)) ↔ (z ≤ℤ s)) → (z : ℤ) → (((b -ℤ a) *ℤ pos p) ≤ℤ ((z -ℤ a) *ℤ pos d)) ↔ ((a -ℤ s) ≤ℤ z)
ceil_is a b s p d down z =
    let left = times-sub a b p in
    let right = times-sub b a p in
    let index = times-sub z a d in
    let other = times-sub a z d in (
      λ h. let k = (down (a -ℤ z)).0 (omega (arith, ints)) in omega (arith, ints),
      λ h. let k = (down (a -ℤ z)).1 (omega (arith, ints)) in omega (arith, ints),
    )

pub share_bound : (n s : ℤ) → unsigned_abs n < 2 ^ 64 → IsShareOf n s → unsigned_abs s ≤ 2 ^ 64
share_bound n s small share =
    let low = share.low (neg_ℤ (pos (2 ^ 64))) (omega (arith, ints)) (omega (arith, ints)) in
    let high = share.high (pos (2 ^ 64)) (omega (arith, ints)) (omega (arith, ints)) in
    omega (arith, ints)

-- what a call is handed as the difference of two indices is their difference
pub difference_is : (a b d : ℤ) → FitsSigned w64 a → FitsSigned w64 b → FitsSigned w128 d → d ≡ to_z w64 (of_z w64 a) -ℤ to_z w64 (of_z w64 b) → to_z w128 (of_z w128 d) ≡ a -ℤ b
difference_is a b d fits_a fits_b fits_d e = to_z-of_z w128 d fits_d ∙ e ∙ rw (to_z-of_z w64 a fits_a, to_z-of_z w64 b fits_b) refl

-- what a call is handed as a negated share
pub negated_is : (s : ℤ) → FitsSigned w128 s → unsigned_abs s ≤ 2 ^ 64 → to_z w128 (of_z w128 (pos 0 -ℤ to_z w128 (of_z w128 s))) ≡ neg_ℤ s
negated_is s fits small =
    let same = to_z-of_z w128 s fits in
    let negated : pos 0 -ℤ s ≡ neg_ℤ s = +ℤ_idl (neg_ℤ s) in
    rw (same, negated) (to_z-of_z w128 (neg_ℤ s) (fits_signed_from_abs w128 (neg_ℤ s) (omega (arith, ints))))

-- the greatest tick that is not above a + x / d lies less than a tick below it
pub floor_between : (a x n : ℤ) (d : ℕ) → ((z : ℤ) → (((z -ℤ a) *ℤ pos d) ≤ℤ x) ↔ (z ≤ℤ n)) → ((n *ℤ pos d) ≤ℤ ((a *ℤ pos d) +ℤ x)) × (((a *ℤ pos d) +ℤ x) <ℤ ((n +ℤ pos 1) *ℤ pos d))
floor_between a x n d greatest =
    let here = times-sub n a d in
    let next = times-sub (n +ℤ pos 1) a d in
    let low = (greatest n).1 (≤ℤ_refl n) in
    let high : x <ℤ (((n +ℤ pos 1) -ℤ a) *ℤ pos d) = by_lt_z x (((n +ℤ pos 1) -ℤ a) *ℤ pos d) (λ h. h) (λ h. absurd (omega (arith, ints, (greatest (n +ℤ pos 1)).0 h))) in
    (omega (arith, ints), omega (arith, ints))
