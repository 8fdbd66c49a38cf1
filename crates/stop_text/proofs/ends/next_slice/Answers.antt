use Rattle.stop_text.proofs.TaskBlocks.{slice_open, slice_ended}
use Rattle.stop_text.proofs.ends.next_slice.Goals as goal

pub returns-then-not-skip_task : goal.returns-then-not-skip_task
returns-then-not-skip_task c = slice_open c.args.lines.now.rest.now c.args.lines.now.number c.skip_task.new.lines.rest.now c.skip_task.new.lines.number c.if-not-skip_task.ensures

pub returns : goal.returns
returns c = slice_ended c.args.lines.now.rest.now c.args.lines.now.number c.skip_task.new.lines.rest.now c.skip_task.new.lines.number c.if-not-skip_task.ensures
