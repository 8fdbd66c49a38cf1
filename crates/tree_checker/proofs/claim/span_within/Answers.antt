use Rattle.std.proofs.Common.{◌≡◌, ℤ, pos, ◌-ℤ◌, ◌+ℤ◌, ap, ap₂, ◌∙◌, arith, to_z, of_z, w64}
use Rattle.std.proofs.lemmas.Int.{ints, clamps}
use Rattle.std.specs.Int.{int_max, int_min}
use Rattle.hold_limits.proofs.LawfulBounds.{lawful-bounds}
use Rattle.tree_checker.proofs.claim.span_within.Goals as goal

pub overflow_sub-ideal_low : goal.overflow_sub-ideal_low
overflow_sub-ideal_low c =
    let bounds = lawful-bounds c.args.task.now c.items-lawful.ensures.lawful in
    omega (arith, ints)

pub overflow_sub-ideal_low-2 : goal.overflow_sub-ideal_low-2
overflow_sub-ideal_low-2 c =
    let bounds = lawful-bounds c.args.task.now c.items-lawful.ensures.lawful in
    omega (arith, ints)

pub overflow_sub-ideal_high : goal.overflow_sub-ideal_high
overflow_sub-ideal_high c =
    let bounds = lawful-bounds c.args.task.now c.items-lawful.ensures.lawful in
    omega (arith, ints)

pub overflow_add-ideal_high : goal.overflow_add-ideal_high
overflow_add-ideal_high c =
    let bounds = lawful-bounds c.args.task.now c.items-lawful.ensures.lawful in
    omega (arith, ints)

pub returns : goal.returns
returns c =
    let t = c.args.task.now in
    let bounds = lawful-bounds t c.items-lawful.ensures.lawful in
    let low : to_z w64 (of_z w64 c.low.result.0) ≡ t.low = omega (arith, ints) in
    let floor : to_z w64 (of_z w64 (to_z w64 (of_z w64 (to_z w64 (of_z w64 c.ideal_low.result.0) -ℤ to_z w64 (of_z w64 c.base-base.result.0))) -ℤ to_z w64 c.args.distance)) ≡ t.ideal_low -ℤ t.base -ℤ pos c.args.distance = omega (arith, ints) in
    let first : c.max.result ≡ int_max t.low (t.ideal_low -ℤ t.base -ℤ pos c.args.distance) = c.max.ensures.value ∙ ap₂ int_max low floor in
    let high : to_z w64 (of_z w64 c.high.result.0) ≡ t.high = omega (arith, ints) in
    let ceiling : to_z w64 (of_z w64 (to_z w64 (of_z w64 (to_z w64 (of_z w64 c.ideal_high.result.0) -ℤ to_z w64 (of_z w64 c.base-base.result.0))) +ℤ to_z w64 c.args.distance)) ≡ t.ideal_high -ℤ t.base +ℤ pos c.args.distance = omega (arith, ints) in
    let last : c.min.result ≡ int_min t.high (t.ideal_high -ℤ t.base +ℤ pos c.args.distance) = c.min.ensures.value ∙ ap₂ int_min high ceiling in
    ap₂ (λ (x y : ℤ). record { low = x; high = y })
    (ap (λ x. to_z w64 (of_z w64 x)) first ∙ omega (arith, ints, clamps))
    (ap (λ x. to_z w64 (of_z w64 x)) last ∙ omega (arith, ints, clamps))
