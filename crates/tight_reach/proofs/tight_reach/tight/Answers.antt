use Rattle.std.proofs.Common.{◌≡◌, ◌≤◌, ℤ, ◌+ℤ◌, unsigned_abs, w64, to_z, of_z, ap₂, ◌∙◌, arith}
use Rattle.std.proofs.lemmas.Int.{ints, to_z-of_z}
use Rattle.hold_limits.specs.Placement.{hold_index}
use Rattle.tight_reach.proofs.ReachedLemmas.{tight-some}
use Rattle.tight_reach.proofs.tight_reach.tight.Goals as goal

sum-fits : (x y : ℤ) → unsigned_abs x ≤ 248000000000 → unsigned_abs y ≤ 1280000000000000 → to_z w64 (of_z w64 (to_z w64 (of_z w64 x) +ℤ to_z w64 (of_z w64 y))) ≡ x +ℤ y
sum-fits x y near far =
    ap₂ (λ a b. to_z w64 (of_z w64 (a +ℤ b))) (to_z-of_z w64 x (omega (arith, ints, near))) (to_z-of_z w64 y (omega (arith, ints, far)))
    ∙ to_z-of_z w64 (x +ℤ y) (omega (arith, ints, near, far))

pub returns-clause-reach : goal.returns-clause-reach
returns-clause-reach c =
    let t = c.args.p.now.task in
    let prefix = c.args.p.now.prefix in
    let so_far = c.hold_index_of-so_far.ensures in
    let index = so_far.value ∙ ap₂ hold_index c.task.ensures.value c.prefix.ensures.value in
    let low = sum-fits c.hold_index_of-so_far.result.0 c.sum.result so_far.bounded c.sum.ensures.bounded ∙ ap₂ (λ a b. a +ℤ b) index c.sum.ensures.value in
    let high = sum-fits c.hold_index_of-so_far.result.0 c.sum-2.result so_far.bounded c.sum-2.ensures.bounded ∙ ap₂ (λ a b. a +ℤ b) index c.sum-2.ensures.value in
    rw (low, high) (tight-some t prefix c.reach_of-low.result c.reach_of-high.result c.reach_of-low.ensures c.reach_of-high.ensures c.if-not-low.false c.if-not-high.false)
