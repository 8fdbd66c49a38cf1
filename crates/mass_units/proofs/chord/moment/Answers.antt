use Rattle.std.proofs.Common.{arith, rules, refl, ◌≡◌, ◌<◌, ◌^◌, ◌∙◌, pos, ◌+ℤ◌, ◌*ℤ◌, unsigned_abs, FitsSigned, ℤ}
use Rattle.std.specs.Int.{w128, w64, w32}
use mir.Val.{to_z, of_z}
use Rattle.std.proofs.lemmas.Int.{ints, to_z-of_z, fits_signed_from_abs, unsigned_abs-mul}
use Rattle.mass_units.proofs.chord.moment.Goals as goal

-- in 128 bits the sum of both moments is their sum
record IsSum (a b : ℤ) : Type 0 where
  fits : FitsSigned w128 (to_z w128 (of_z w128 a) +ℤ to_z w128 (of_z w128 (pos 100 *ℤ to_z w128 (of_z w128 b))))
  value : to_z w128 (of_z w128 (to_z w128 (of_z w128 a) +ℤ to_z w128 (of_z w128 (pos 100 *ℤ to_z w128 (of_z w128 b))))) ≡ a +ℤ (pos 100 *ℤ b)
  bound : unsigned_abs (a +ℤ (pos 100 *ℤ b)) < 2 ^ 110

sum_is : (a b : ℤ) → unsigned_abs a < 2 ^ 96 → unsigned_abs b < 2 ^ 96 → IsSum a b
sum_is a b p q =
    let m : unsigned_abs (pos 100 *ℤ b) < 2 ^ 103 = omega (arith, unsigned_abs-mul (pos 100) b) in
    let n : unsigned_abs (a +ℤ (pos 100 *ℤ b)) < 2 ^ 110 = omega (arith, ints) in
    let fits_sum : FitsSigned w128 (a +ℤ (pos 100 *ℤ b)) = fits_signed_from_abs w128 (a +ℤ (pos 100 *ℤ b)) (omega arith) in
    let ea = to_z-of_z w128 a (fits_signed_from_abs w128 a (omega arith)) in
    let eb = to_z-of_z w128 b (fits_signed_from_abs w128 b (omega arith)) in
    let em = to_z-of_z w128 (pos 100 *ℤ b) (fits_signed_from_abs w128 (pos 100 *ℤ b) (omega arith)) in
    record {
      fits = rw (ea, eb, em) fits_sum;
      value = rw (ea, eb, em) (to_z-of_z w128 (a +ℤ (pos 100 *ℤ b)) fits_sum);
      bound = n;
    }

pub overflow_add-result : goal.overflow_add-result
overflow_add-result c = (sum_is c.product.result c.product-2.result c.product.ensures.bound c.product-2.ensures.bound).fits

pub returns-clause-value : goal.returns-clause-value
returns-clause-value c =
    let u = to_z-of_z w128 c.difference-units.result (search rules) in
    let d = to_z-of_z w128 c.difference-distance.result (search rules) in
    let i = to_z-of_z w64 c.args.index.0 (search rules) in
    let k = to_z-of_z w64 c.args.chord.now.k.0 (search rules) in
    let reference : to_z w64 (of_z w64 c.from.result) ≡ c.args.chord.now.reference_mm = to_z-of_z w64 c.from.result (search rules) ∙ c.from.ensures ∙ to_z-of_z w32 c.args.chord.now.reference_mm (search rules) in
    let lemac : to_z w64 (of_z w64 c.from-2.result) ≡ c.args.chord.now.lemac_mm = to_z-of_z w64 c.from-2.result (search rules) ∙ c.from-2.ensures ∙ to_z-of_z w32 c.args.chord.now.lemac_mm (search rules) in
    (sum_is c.product.result c.product-2.result c.product.ensures.bound c.product-2.ensures.bound).value
    ∙ rw (c.product.ensures.value, c.product-2.ensures.value, u, d, c.difference-units.ensures.value, c.difference-distance.ensures.value, i, k, reference, lemac) refl

pub returns-clause-bound : goal.returns-clause-bound
returns-clause-bound c =
    let s = sum_is c.product.result c.product-2.result c.product.ensures.bound c.product-2.ensures.bound in rw s.value s.bound
