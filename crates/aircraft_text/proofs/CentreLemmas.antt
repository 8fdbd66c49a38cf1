-- the nearest whole number is the one to which the centre of gravity is rounded
use Rattle.std.proofs.Common.{◌≡◌, ℕ, zero, suc, ◌+◌, ◌-◌, ◌*◌, ◌/◌, ◌<◌, ◌≤◌, ℤ, pos, negsuc, neg_ℤ, ◌-ℤ◌, ◌*ℤ◌, unsigned_abs, Some, ap, sym, ◌∙◌, arith}
use Rattle.std.proofs.lemmas.Int.{ints}
use Rattle.std.proofs.lemmas.Nat.{div-mul-add}
use Rattle.std.proofs.lemmas.Bool.{ne_eqb}
use Rattle.std.proofs.Math.IntN.{negsuc-*ℤ-pos}
use Rattle.std.proofs.Math.Nat.{mul_comm}
use Rattle.mass_units.specs.Rounding.{IsRounded}
use Rattle.mass_units.specs.declared.chord.Chord.{Chord}
use Rattle.mass_units.specs.PercentMac.{moment_behind_lemac}
use Rattle.envelope.specs.declared.corner.Corner.{Corner}
use Rattle.aircraft_text.specs.Centre.{nearest, centre_at}

-- a multiple that lies within half a step of m, and not below it at exactly half a step
near : (x m d : ℕ) → 1 ≤ d → 2 * unsigned_abs (pos x -ℤ pos m) ≤ d → (2 * unsigned_abs (pos x -ℤ pos m) ≡ d → m ≤ x) → (2 * x ≤ 2 * m + d) × (2 * m + d < 2 * x + 2 * d)
near x m d some nearest away = (grind (arith, ints), grind (arith, ints))

-- the factor of such a multiple
factor : (q m d : ℕ) → 1 ≤ d → 2 * unsigned_abs (pos (q * d) -ℤ pos m) ≤ d → (2 * unsigned_abs (pos (q * d) -ℤ pos m) ≡ d → m ≤ q * d) → q ≡ (2 * m + d) / (2 * d)
factor q m d some nearest away =
    let bounds = near (q * d) m d some nearest away in
    let rest : ℕ = 2 * m + d - 2 * (q * d) in
    let twice : q * (2 * d) ≡ 2 * (q * d) = omega (arith, mul_comm) in
    let whole : q * (2 * d) + rest ≡ 2 * m + d = omega (arith, twice, bounds.0) in
    sym (div-mul-add q (2 * d) rest (omega (arith, bounds.0, bounds.1))) ∙ ap (λ n. n / (2 * d)) whole

-- a multiple on the other side of zero is further away
below : (x m d : ℕ) → 1 ≤ d → d ≤ x → 2 * unsigned_abs (neg_ℤ (pos x) -ℤ pos m) ≤ d → ⊥
below x m d some step nearest = grind (arith, ints)

above : (x m d : ℕ) → 1 ≤ d → d ≤ x → 2 * unsigned_abs (pos x -ℤ negsuc m) ≤ d → ⊥
above x m d some step nearest = grind (arith, ints)

-- distances are the same on both sides of zero
turned : (x m : ℕ) → unsigned_abs (neg_ℤ (pos x) -ℤ negsuc m) ≡ unsigned_abs (pos x -ℤ pos (suc m))
turned x m = grind (arith, ints)

size : (x : ℕ) → unsigned_abs (neg_ℤ (pos x)) ≡ x
size x = grind (arith, ints)

one_step : (q d : ℕ) → d ≤ suc q * d
one_step q d = omega (arith, mul_comm)

positive : (a b : ℕ) → 0 < a → 0 < b → 1 ≤ a * b
positive zero b first second = absurd (omega (arith, first))
positive (suc a) b first second = omega (arith, one_step a b, second)

pub nearest_is : (n : ℤ) (d : ℕ) (r : ℤ) → 1 ≤ d → IsRounded n d r → r ≡ nearest n d
unfolding nearest
nearest_is (pos m) d (pos q) some rounded = ap pos (factor q m d some rounded.nearest rounded.away)
nearest_is (pos m) d (negsuc q) some rounded = absurd (below (suc q * d) m d some (one_step q d) (rw (negsuc-*ℤ-pos q d) at rounded.nearest))
nearest_is (negsuc m) d (pos zero) some rounded =
    let far : 2 * suc m ≤ d = grind (arith, ints, rounded.nearest) in
    let tie : 2 * suc m ≡ d → suc m ≤ 0 * d = λ e. rounded.away (grind (arith, ints, e)) in
    ap (λ k. neg_ℤ (pos k)) (factor 0 (suc m) d some (grind (arith, ints, far)) (λ e. tie (grind (arith, ints, e))))
nearest_is (negsuc m) d (pos (suc q)) some rounded = absurd (above (suc q * d) m d some (one_step q d) rounded.nearest)
nearest_is (negsuc m) d (negsuc q) some rounded =
    let x = suc q * d in
    let close : 2 * unsigned_abs (pos x -ℤ pos (suc m)) ≤ d = rw (turned x m) at (rw (negsuc-*ℤ-pos q d) at rounded.nearest) in
    let tie : 2 * unsigned_abs (pos x -ℤ pos (suc m)) ≡ d → suc m ≤ x =
    λ e. rw (size x) at (rw (negsuc-*ℤ-pos q d) at (rounded.away (rw (negsuc-*ℤ-pos q d, turned x m) e))) in
    ap (λ k. neg_ℤ (pos k)) (factor (suc q) (suc m) d some close tie)

-- where there is mass, the rounded centre is the one that the text has
pub centre_is : (chord : Chord) (corner : Corner) (r : ℤ) → 0 < chord.mac_mm → 0 < corner.mass.0
    → IsRounded (pos 100 *ℤ moment_behind_lemac corner.index corner.mass chord) (corner.mass.0 * chord.mac_mm) r → Some r ≡ centre_at chord corner
centre_is chord corner r long heavy rounded =
    let some : 1 ≤ corner.mass.0 * chord.mac_mm = positive corner.mass.0 chord.mac_mm heavy long in
    rw (ne_eqb corner.mass.0 0 (λ e. omega (arith, e, heavy))) (ap Some (nearest_is _ _ r some rounded))
