use Rattle.std.proofs.Common.{◌≡◌, ◌≤◌, ◌*◌, ℕ, ℤ, pos, ◌-ℤ◌, unsigned_abs, ap, ap₂, sym, ◌∙◌, arith}
use Rattle.std.proofs.Math.Nat.{mul-le-mul}
use Rattle.std.proofs.lemmas.Int.{unsigned_abs-mul}
use Rattle.hold_limits.specs.Placement.{influence_at}
use Rattle.hold_choices.proofs.RemainderLemmas.{times-difference}
use Rattle.hold_choices.proofs.missed.moments_apart.Goals as goal

pub overflow_mul-result : goal.overflow_mul-result
overflow_mul-result c =
    let light : c.from.result ≤ 4294967295 = omega arith in
    let product : c.from.result * c.influences_apart.result ≤ 4294967295 * 4294967295 = mul-le-mul light c.influences_apart.ensures.bounded in
    omega (arith, product)

pub returns : goal.returns
returns c =
    let m : ℕ = c.args.item.now.mass.0 in
    let a : ℤ = influence_at c.args.hold.now c.args.other in
    let b : ℤ = influence_at c.args.hold.now c.args.one in
    let mass : c.from.result ≡ m = omega arith in
    ap₂ ◌*◌ mass c.influences_apart.ensures.value ∙ sym (unsigned_abs-mul (pos m) (a -ℤ b)) ∙ ap unsigned_abs (times-difference m a b)
