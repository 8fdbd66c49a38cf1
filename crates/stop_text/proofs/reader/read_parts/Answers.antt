use Rattle.std.proofs.Common.{refl}
use Rattle.std.proofs.lemmas.Result.{err_from_is_err_and}
use Rattle.stop_text.proofs.FileLines.{wrong_header, wrong_first, wrong_second, wrong_third, file_read, file_with}
use Rattle.stop_text.proofs.reader.read_parts.Goals as goal

pub returns-in_err-expect_line-clause-refused : goal.returns-in_err-expect_line-clause-refused
returns-in_err-expect_line-clause-refused c =
    let p = err_from_is_err_and c.from_residual.result c.from_residual.ensures.1 in
    rw (p.1, p.2) (wrong_header c.args.text.now c.new-lines.result c.in_err-expect_line.field-0.0 c.new-lines.ensures.whole c.new-lines.ensures.first c.in_err-expect_line.ensures.refused)

pub returns-in_err-first-clause-refused : goal.returns-in_err-first-clause-refused
returns-in_err-first-clause-refused c =
    let p = err_from_is_err_and c.from_residual-in_err-first.result c.from_residual-in_err-first.ensures.1 in
    rw (p.1, p.2)
    (wrong_first c.args.text.now c.new-lines.result c.expect_line.new.lines c.read_section.new.lines c.read_section-2.new.lines c.in_ok-leaves.leaves.items c.in_ok-behind.behind.items c.new-lines.ensures.whole c.new-lines.ensures.first
    c.in_ok-expect_line.ensures.read c.in_ok-expect_line.ensures.counted c.in_ok-leaves.ensures c.in_ok-behind.ensures c.in_err-first.field-0.0 c.in_err-first.ensures.refused)

pub returns-in_err-second-clause-refused : goal.returns-in_err-second-clause-refused
returns-in_err-second-clause-refused c =
    let first = c.in_ok-first.ensures.read in
    let p = err_from_is_err_and c.from_residual-in_err-second.result c.from_residual-in_err-second.ensures.1 in
    rw (p.1, p.2)
    (wrong_second c.args.text.now c.new-lines.result c.expect_line.new.lines c.read_section.new.lines c.read_section-2.new.lines c.in_ok-leaves.leaves.items c.in_ok-behind.behind.items c.new-lines.ensures.whole c.new-lines.ensures.first
    c.in_ok-expect_line.ensures.read c.in_ok-expect_line.ensures.counted c.in_ok-leaves.ensures c.in_ok-behind.ensures c.next_task.new.lines first.task first.spelled first.read first.counted
    c.in_err-second.field-0.0 c.in_err-second.ensures.refused)

pub returns-in_err-third-clause-refused : goal.returns-in_err-third-clause-refused
returns-in_err-third-clause-refused c =
    let first = c.in_ok-first.ensures.read in
    let second = c.in_ok-second.ensures.read in
    let p = err_from_is_err_and c.from_residual-in_err-third.result c.from_residual-in_err-third.ensures.1 in
    rw (p.1, p.2)
    (wrong_third c.args.text.now c.new-lines.result c.expect_line.new.lines c.read_section.new.lines c.read_section-2.new.lines c.in_ok-leaves.leaves.items c.in_ok-behind.behind.items c.new-lines.ensures.whole c.new-lines.ensures.first
    c.in_ok-expect_line.ensures.read c.in_ok-expect_line.ensures.counted c.in_ok-leaves.ensures c.in_ok-behind.ensures c.next_task.new.lines first.task first.spelled first.read first.counted
    c.next_task-2.new.lines second.task second.spelled second.read second.counted c.in_err-third.field-0.0 c.in_err-third.ensures.refused c.in_err-third.ensures.some)

pub returns-clause-read : goal.returns-clause-read
returns-clause-read c =
    let first = c.in_ok-first.ensures.read in
    let second = c.in_ok-second.ensures.read in
    let third = c.in_ok-third.ensures.read in (
      file_with c.in_ok-leaves.leaves.items c.in_ok-behind.behind.items first.task second.task third.task,
      file_read c.args.text.now c.new-lines.result c.expect_line.new.lines c.read_section.new.lines c.read_section-2.new.lines c.in_ok-leaves.leaves.items c.in_ok-behind.behind.items c.new-lines.ensures.whole c.new-lines.ensures.first
          c.in_ok-expect_line.ensures.read c.in_ok-expect_line.ensures.counted c.in_ok-leaves.ensures c.in_ok-behind.ensures c.next_task.new.lines first.task first.spelled first.read first.counted
          c.next_task-2.new.lines second.task second.spelled second.read second.counted third.task third.spelled third.read,
      record { leaves = refl; behind = refl; first = first.is; second = second.is; third = third.is },
    )
