use Rattle.std.proofs.Common.{refl}
use Rattle.std.proofs.lemmas.Result.{err_from_is_err_and}
use Rattle.text_lines.proofs.Rests.{past_said, fails_at_one}
use Rattle.text_lines.proofs.RunsOfLines.{fails_at_last, read_last}
use Rattle.problem_text.proofs.TaskParts.{indices_with, are_spelled, starts_with_base, starts_with_window, starts_with_ideal, ends}
use Rattle.problem_text.proofs.ReadLemmas.{zeros, zeros_right, to_ideal, to_end}
use Rattle.problem_text.proofs.reader.read_indices.Goals as goal

pub returns-in_err-base-clause-refused : goal.returns-in_err-base-clause-refused
returns-in_err-base-clause-refused c =
    let p = err_from_is_err_and c.from_residual.result c.from_residual.ensures.1 in
    let some = are_spelled zeros.0 zeros zeros zeros_right.0 zeros_right zeros_right in
    rw (p.1, p.2) (fails_at_one starts_with_base (indices_with zeros.0 zeros zeros) some c.args.lines.now c.in_err-base.field-0.0 c.in_err-base.ensures.refused)

pub returns-in_err-window-clause-refused : goal.returns-in_err-window-clause-refused
returns-in_err-window-clause-refused c =
    let l1 = c.next_fields.new.lines in
    let base = c.in_ok-base.base in
    let read = c.in_ok-base.ensures.read in
    let some = are_spelled base zeros zeros read.0 zeros_right zeros_right in
    let fails = fails_at_one (starts_with_window base) (indices_with base zeros zeros) (some, refl) l1 c.in_err-window.field-0.0 c.in_err-window.ensures.refused in
    let p = err_from_is_err_and c.from_residual-in_err-window.result c.from_residual-in_err-window.ensures.1 in
    rw (p.1, p.2) ((past_said starts_with_base c.args.lines.now l1 base read c.in_ok-base.ensures.counted).fails c.in_err-window.field-0.0 fails)

pub returns-in_err-ideal-clause-refused : goal.returns-in_err-ideal-clause-refused
returns-in_err-ideal-clause-refused c =
    let l2 = c.next_fields-2.new.lines in
    let base = c.in_ok-base.base in
    let window = c.in_ok-window.window in
    let some = are_spelled base window zeros c.in_ok-base.ensures.read.0 c.in_ok-window.ensures.read.0 zeros_right in
    let fails = fails_at_one (starts_with_ideal base window) (indices_with base window zeros) ((some, refl), refl) l2 c.in_err-ideal.field-0.0 c.in_err-ideal.ensures.refused in
    let p = err_from_is_err_and c.from_residual-in_err-ideal.result c.from_residual-in_err-ideal.ensures.1 in
    let to_here = to_ideal c.args.lines.now c.next_fields.new.lines l2 base window
    (c.in_ok-base.ensures.read, c.in_ok-base.ensures.counted) (c.in_ok-window.ensures.read, c.in_ok-window.ensures.counted) in
    rw (p.1, p.2) (to_here.fails c.in_err-ideal.field-0.0 fails)

pub returns-in_err-expect_last-clause-refused : goal.returns-in_err-expect_last-clause-refused
returns-in_err-expect_last-clause-refused c =
    let l3 = c.next_fields-3.new.lines in
    let base = c.in_ok-base.base in
    let window = c.in_ok-window.window in
    let ideal = c.in_ok-ideal.ideal in
    let all = to_end c.args.lines.now c.next_fields.new.lines c.next_fields-2.new.lines l3 base window ideal
    (c.in_ok-base.ensures.read, c.in_ok-base.ensures.counted) (c.in_ok-window.ensures.read, c.in_ok-window.ensures.counted) (c.in_ok-ideal.ensures.read, c.in_ok-ideal.ensures.counted) in
    let fault = c.in_err-expect_last.field-0.0 in
    let p = err_from_is_err_and c.from_residual-in_err-expect_last.result c.from_residual-in_err-expect_last.ensures.1 in
    rw (p.1, p.2) (all.0.fails fault (fails_at_last (ends base window ideal) (indices_with base window ideal) all.1 l3 fault c.in_err-expect_last.ensures.refused))

pub returns-clause-read : goal.returns-clause-read
returns-clause-read c =
    let l3 = c.next_fields-3.new.lines in
    let base = c.in_ok-base.base in
    let window = c.in_ok-window.window in
    let ideal = c.in_ok-ideal.ideal in
    let all = to_end c.args.lines.now c.next_fields.new.lines c.next_fields-2.new.lines l3 base window ideal
    (c.in_ok-base.ensures.read, c.in_ok-base.ensures.counted) (c.in_ok-window.ensures.read, c.in_ok-window.ensures.counted) (c.in_ok-ideal.ensures.read, c.in_ok-ideal.ensures.counted) in
    let got = indices_with base window ideal in
    all.0.read got all.1 (read_last (ends base window ideal) got all.1 l3 c.in_ok-expect_last.ensures.read)
