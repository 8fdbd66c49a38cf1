use Rattle.std.proofs.Common.{pos, int_lt}
use Rattle.hold_limits.specs.Lateral.{side_at}
use Rattle.hold_partial.proofs.NumberLemmas.{stands-more}
use Rattle.hold_partial.proofs.sides.right_positions.Goals as goal

pub loop-number-preserved : goal.loop-number-preserved
loop-number-preserved c =
    stands-more (λ q. int_lt (pos 0) (side_at c.args.hold.now q)) c.loop-number.set c.with_if-set.result c.loop-number.number _ c.loop-number.invariant c.with_if-set.ensures c.is_on_right.ensures
