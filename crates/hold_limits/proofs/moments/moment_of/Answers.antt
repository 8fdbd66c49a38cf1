use Rattle.std.proofs.Common.{◌≡◌, ◌+◌, ◌*◌, ◌≤◌, ◌+ℤ◌, take, unsigned_abs, arith, sym, ◌∙◌}
use Rattle.std.proofs.lemmas.Int.{ints}
use Rattle.base_words.specs.Lists.{int_sum_by}
use Rattle.hold_limits.specs.Arms.{arm_at, loose_by}
use Rattle.hold_limits.proofs.MomentLemmas.{load-bound, moments-more}
use Rattle.hold_limits.proofs.moments.moment_of.Goals as goal

-- the moments of one load more
more : (c : goal.After-moment_at-moment) → (int_sum_by (loose_by (arm_at c.args.arm c.args.hold.now)) (take (c.loop-load.load-index + 1) c.args.stowage.now) ≡ c.loop-load.moment +ℤ c.moment_at-moment.result) × (unsigned_abs (c.loop-load.moment +ℤ c.moment_at-moment.result) ≤ 500000000000000 * (c.loop-load.load-index + 1))
more c =
    let step = c.moment_at-moment.ensures in
    let small = load-bound c.args.arm c.args.hold.now c.requires.lawful _ step.mass in
    moments-more (loose_by (arm_at c.args.arm c.args.hold.now)) c.args.stowage.now c.loop-load.load-index _ c.loop-load.moment c.moment_at-moment.result 500000000000000
    c.loop-load-test.true (sym c.loop-load.moment-is ∙ c.loop-load.invariant.value) (omega (arith, ints, c.loop-load.invariant.bounded)) step.value small

pub overflow_add-moment : goal.overflow_add-moment
overflow_add-moment c = let next = more c in omega (arith, ints, next.1)

pub loop-load-preserved : goal.loop-load-preserved
loop-load-preserved c = let next = more c in record { value = omega (arith, ints, next.0, next.1); bounded = omega (arith, ints, next.1) }

pub returns-clause-bounded : goal.returns-clause-bounded
returns-clause-bounded c = omega (arith, ints, c.loop-load.invariant.bounded)
