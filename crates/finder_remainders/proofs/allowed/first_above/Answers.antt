use Rattle.std.proofs.Common.{◌≡◌, ⊎_elim, ◌+◌, ◌*◌, ◌/◌, ◌%◌, ℕ, ℤ, ◌-ℤ◌, unsigned_abs, FitsSigned, w64, to_z, of_z, ap₂, ◌∙◌, arith}
use Rattle.std.proofs.lemmas.Int.{ints, to_z-of_z}
use Rattle.std.proofs.Math.Nat.{div-add-mod}
use Rattle.hold_choices.proofs.RemainderLemmas.{above-index, at-index, below-index}
use Rattle.finder_remainders.proofs.allowed.first_above.Goals as goal

apart : (low index : ℤ) (n : ℕ) → FitsSigned w64 low → FitsSigned w64 index → n ≡ unsigned_abs (to_z w64 (of_z w64 low) -ℤ to_z w64 (of_z w64 index)) → n ≡ unsigned_abs (low -ℤ index)
apart low index n fits fits' is = is ∙ ap₂ (λ a b. unsigned_abs (a -ℤ b)) (to_z-of_z w64 low fits) (to_z-of_z w64 index fits')

pub returns-then-apart-eq0-clause-multiple : goal.returns-then-apart-eq0-clause-multiple
returns-then-apart-eq0-clause-multiple c =
    let g : ℕ = c.args.divisor in
    let n : ℕ = c.abs_diff.result in
    let split : g * (n / g) + n % g ≡ n = div-add-mod n g in
    ⊎_elim
    (λ from. above-index g n (n / g) (n % g) c.args.low c.args.index split (omega (arith, ints, from)) (apart c.args.low c.args.index n c.ranges.low c.ranges.index c.abs_diff.ensures))
    (λ other. at-index g n (n / g) (n % g) c.args.low c.args.index split (omega (arith, ints, other.0)) (apart c.args.low c.args.index n c.ranges.low c.ranges.index c.abs_diff.ensures) other.1)
    c.if-apart-eq0.either

pub returns-else-apart-eq0-clause-multiple : goal.returns-else-apart-eq0-clause-multiple
returns-else-apart-eq0-clause-multiple c =
    let g : ℕ = c.args.divisor in
    let n : ℕ = c.abs_diff.result in
    let split : g * (n / g) + n % g ≡ n = div-add-mod n g in
    below-index g n (n / g) (n % g) c.args.low c.args.index split (omega arith) (omega (arith, ints, c.if-apart-eq0.false.0)) (apart c.args.low c.args.index n c.ranges.low c.ranges.index c.abs_diff.ensures)
