use Rattle.stop_text.proofs.TaskBlocks.{line_fits, lawful_between, told_read, told_refused}
use Rattle.stop_text.proofs.ends.next_task.Goals as goal

pub told-requires : goal.told-requires
told-requires c =
    let start = c.args.lines.now in
    let there = c.next_slice.new.lines in
    line_fits start.rest.now start.number c.next_slice.result.now there.rest.now there.number c.in-Err.fault c.next_slice.ensures start.counted c.in-Err.ensures.refused

pub returns-in-Ok-clause-read : goal.returns-in-Ok-clause-read
returns-in-Ok-clause-read c =
    let start = c.args.lines.now in
    let there = c.next_slice.new.lines in
    lawful_between start.rest.now start.number c.next_slice.result.now there.rest.now there.number c.in-Ok.task c.next_slice.ensures c.in-Ok.ensures.read

pub returns-in-Err-clause-read : goal.returns-in-Err-clause-read
returns-in-Err-clause-read c =
    let start = c.args.lines.now in
    let there = c.next_slice.new.lines in
    rw c.told.ensures (told_read start.rest.now start.number c.next_slice.result.now there.rest.now there.number c.in-Err.fault c.next_slice.ensures c.in-Err.ensures.refused)

pub returns-in-Err-clause-refused : goal.returns-in-Err-clause-refused
returns-in-Err-clause-refused c =
    let start = c.args.lines.now in
    let there = c.next_slice.new.lines in
    rw c.told.ensures (told_refused start.rest.now start.number c.next_slice.result.now there.rest.now there.number c.in-Err.fault c.next_slice.ensures c.in-Err.ensures.refused)
