use Rattle.std.specs.Prelude.{option_to_list}
use Rattle.std.proofs.lemmas.Result.{err_from_is_err_and}
use Rattle.text_lines.specs.Grammar.Fails.{no_memory}
use Rattle.text_lines.proofs.RunsOfLines.{fails_at_last, read_last}
use Rattle.flight_row.specs.Reading.{Said, row_with}
use Rattle.flight_row.proofs.RowParts.{fails_at_plan, ends}
use Rattle.flight_row.proofs.ReadLemmas.{to_end}
use Rattle.flight_row.proofs.reader.read_rest.Goals as goal

pub returns-in_err-plan-clause-refused : goal.returns-in_err-plan-clause-refused
returns-in_err-plan-clause-refused c =
    let p = err_from_is_err_and c.from_residual.result c.from_residual.ensures.1 in
    rw (p.1, p.2) (λ version h f. fails_at_plan version c.args.head.now c.args.base.now h f c.args.lines.now c.in_err-plan.field-0.0 c.in_err-plan.ensures.refused)

pub returns-in_err-lmcs-clause-refused : goal.returns-in_err-lmcs-clause-refused
returns-in_err-lmcs-clause-refused c =
    let p = err_from_is_err_and c.from_residual-in_err-lmcs.result c.from_residual-in_err-lmcs.ensures.1 in
    rw (p.1, p.2) (λ version h f. no_memory)

pub returns-in_err-expect_last-clause-refused : goal.returns-in_err-expect_last-clause-refused
returns-in_err-expect_last-clause-refused c =
    let head = c.args.head.now in
    let base = c.args.base.now in
    let plan = c.in_ok-plan.plan in
    let changes = c.in_ok-lmcs.lmcs in
    let l2 = c.read_changes.new.lines in
    let fault = c.in_err-expect_last.field-0.0 in
    let p = err_from_is_err_and c.from_residual-in_err-expect_last.result c.from_residual-in_err-expect_last.ensures.1 in
    rw (p.1, p.2) (λ version h f.
    let end = to_end head base h f c.args.lines.now c.read_plan_for.new.lines l2 plan changes c.in_ok-plan.ensures.plan c.in_ok-plan.ensures.read c.in_ok-lmcs.ensures in
    end.0.fails fault (fails_at_last (ends version head base (option_to_list plan) changes) (version, row_with head base plan changes) end.1 l2 fault c.in_err-expect_last.ensures.refused))

pub returns-clause-read : goal.returns-clause-read
returns-clause-read c =
    let head = c.args.head.now in
    let base = c.args.base.now in
    let plan = c.in_ok-plan.plan in
    let changes = c.in_ok-lmcs.lmcs in
    let l2 = c.read_changes.new.lines in
    λ version h f.
    let end = to_end head base h f c.args.lines.now c.read_plan_for.new.lines l2 plan changes c.in_ok-plan.ensures.plan c.in_ok-plan.ensures.read c.in_ok-lmcs.ensures in
    let said : Said = (version, row_with head base plan changes) in
    end.0.read said end.1 (read_last (ends version head base (option_to_list plan) changes) said end.1 l2 c.in_ok-expect_last.ensures.read)
