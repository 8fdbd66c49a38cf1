use Rattle.std.proofs.Common.{◌≡◌, ◌+◌, ◌*◌, ◌≤◌, ◌+ℤ◌, take, unsigned_abs, arith, sym, ◌∙◌}
use Rattle.std.proofs.lemmas.Int.{ints}
use Rattle.base_words.specs.Lists.{int_sum_by}
use Rattle.hold_limits.specs.Placement.{loose_moment}
use Rattle.last_minute.proofs.CountLemmas.{sum-more}
use Rattle.last_minute.proofs.loads.index_of_loads.Goals as goal

-- the moments of one load more
more : (c : goal.After-index_of_load-index) → (int_sum_by (loose_moment c.args.hold.now) (take (c.loop-load.load-index + 1) c.args.loads.now) ≡ c.loop-load.index +ℤ c.index_of_load-index.result)
    × (unsigned_abs (c.loop-load.index +ℤ c.index_of_load-index.result) ≤ 2791728742400000 * (c.loop-load.load-index + 1))
more c =
    let step = c.index_of_load-index.ensures in
    sum-more (loose_moment c.args.hold.now) c.args.loads.now c.loop-load.load-index _ c.loop-load.index c.index_of_load-index.result 2791728742400000
    c.loop-load-test.true (sym c.loop-load.index-is ∙ c.loop-load.invariant.0) (omega (arith, ints, c.loop-load.invariant.1)) step.index step.bounded

pub overflow_add-index : goal.overflow_add-index
overflow_add-index c = let next = more c in omega (arith, ints, next.1)

pub loop-load-preserved : goal.loop-load-preserved
loop-load-preserved c = let next = more c in (omega (arith, ints, next.0, next.1), omega (arith, ints, next.1))
