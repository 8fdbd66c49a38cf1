use Rattle.std.proofs.Common.{below_more}
use Rattle.stop_tasks.proofs.stop_faults.wrong_pair.Goals as goal

pub loop-place-preserved : goal.loop-place-preserved
loop-place-preserved c = below_more _ _ c.loop-place.invariant (c.is_pair.ensures.0 c.if-not-is_pair.false)
