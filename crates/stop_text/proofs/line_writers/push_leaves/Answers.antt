use Rattle.stop_text.proofs.WrittenFile.{one_more_leave, all_leaves}
use Rattle.stop_text.proofs.line_writers.push_leaves.Goals as goal

pub loop-place-preserved : goal.loop-place-preserved
loop-place-preserved c =
    one_more_leave c.args.items.now c.args.leaves.now c.loop-place.place c.index-items-place.result c.args.out.now c.loop-place.out _ c.requires c.loop-place-test.true c.index-items-place.is
    c.loop-place.invariant c.in_ok-push_leave.ensures

pub returns : goal.returns
returns c =
    all_leaves c.args.items.now c.args.leaves.now c.loop-place.place c.args.out.now c.loop-place.out c.requires c.loop-place-test.false c.loop-place.invariant
