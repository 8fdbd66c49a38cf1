use Rattle.std.proofs.Common.{below_more}
use Rattle.stop_tasks.proofs.stop_faults.other_items.Goals as goal

pub loop-place-preserved : goal.loop-place-preserved
loop-place-preserved c = below_more _ _ c.loop-place.invariant (c.has_items_aboard.ensures.0 c.if-not-has_items_aboard.false)
