use Rattle.std.proofs.Common.{◌∙◌}
use Rattle.desk_lock.proofs.Closing.{mine_front, rejoined, now_joined, moved}
use Rattle.desk_lock.proofs.seating.collect_all.Goals as goal

pub loop-desk-preserved : goal.loop-desk-preserved
loop-desk-preserved g c = record {
  at = rejoined _ _ _ _ _ c.collect.ensures.working;
  table = c.collect.ensures.same ∙ c.loop-desk.invariant.table;
  mine = mine_front _ _ _ _ _ c.in-Some.ensures.items c.loop-desk.invariant.mine;
  whole = moved _ _ _ _ _ _ _ c.in-Some.ensures.items (now_joined _ _ _ _ _ c.collect.ensures.working) c.loop-desk.invariant.whole;
}
