use Rattle.std.proofs.Common.{◌∙◌, lit≤, sym}
use Rattle.std.proofs.lemmas.Result.{err_from_is_err_and}
use Rattle.flight_state.specs.declared.state.Stage.TheVariants.{Working}
use Rattle.flight_row.specs.declared.row.Version.TheVariants.{Two}
use Rattle.flight_row.specs.Reading.{Said, row_with}
use Rattle.flight_row.proofs.RowParts.{head_with, some_leg, no_figures, some_row, leg_right, head_right, no_figures_right, some_right, fails_at_next, fails_text, starts_with_version}
use Rattle.text_lines.proofs.Rests.{past_said}
use Rattle.flight_row.proofs.reader.read_lines.Goals as goal

pub returns-in_err-version-clause-refused : goal.returns-in_err-version-clause-refused
returns-in_err-version-clause-refused c =
    let right = some_right (head_right Two some_leg 1 Working leg_right (lit≤ tt, lit≤ tt)) no_figures_right in
    let start = c.new-lines.result in
    let fault = c.in_err-version.field-0.0 in
    let fails = fails_at_next starts_with_version (Two, some_row (head_with some_leg 1 Working) no_figures) right start fault c.in_err-version.ensures.refused in
    let p = err_from_is_err_and c.from_residual.result c.from_residual.ensures.1 in
    rw (p.1, p.2) (fails_text c.args.text.now start fault c.new-lines.ensures.whole c.new-lines.ensures.first fails)

pub returns-in_err-head-clause-refused : goal.returns-in_err-head-clause-refused
returns-in_err-head-clause-refused c =
    let start = c.new-lines.result in
    let fault = c.in_err-head.field-0.0 in
    let to_leg = past_said starts_with_version start c.next_said.new.lines c.in_ok-version.version c.in_ok-version.ensures.read c.in_ok-version.ensures.counted in
    let p = err_from_is_err_and c.from_residual-in_err-head.result c.from_residual-in_err-head.ensures.1 in
    rw (p.1, p.2) (fails_text c.args.text.now start fault c.new-lines.ensures.whole c.new-lines.ensures.first (to_leg.fails fault c.in_err-head.ensures.refused))

pub returns-in_err-base-clause-refused : goal.returns-in_err-base-clause-refused
returns-in_err-base-clause-refused c =
    let start = c.new-lines.result in
    let fault = c.in_err-base.field-0.0 in
    let to_leg = past_said starts_with_version start c.next_said.new.lines c.in_ok-version.version c.in_ok-version.ensures.read c.in_ok-version.ensures.counted in
    let fails = c.in_ok-head.ensures.read.fails fault (c.in_err-base.ensures.refused c.in_ok-version.version c.in_ok-head.head c.in_ok-head.ensures.spelled) in
    let p = err_from_is_err_and c.from_residual-in_err-base.result c.from_residual-in_err-base.ensures.1 in
    rw (p.1, p.2) (fails_text c.args.text.now start fault c.new-lines.ensures.whole c.new-lines.ensures.first (to_leg.fails fault fails))

pub returns-in_err-plan-clause-refused : goal.returns-in_err-plan-clause-refused
returns-in_err-plan-clause-refused c =
    let start = c.new-lines.result in
    let version = c.in_ok-version.version in
    let fault = c.in_err-plan.field-0.0 in
    let to_leg = past_said starts_with_version start c.next_said.new.lines version c.in_ok-version.ensures.read c.in_ok-version.ensures.counted in
    let figures = c.in_ok-base.ensures.read version c.in_ok-head.head in
    let fails = c.in_ok-head.ensures.read.fails fault (figures.fails fault (c.in_err-plan.ensures.refused version c.in_ok-head.ensures.spelled c.in_ok-base.ensures.spelled)) in
    let p = err_from_is_err_and c.from_residual-in_err-plan.result c.from_residual-in_err-plan.ensures.1 in
    rw (p.1, p.2) (fails_text c.args.text.now start fault c.new-lines.ensures.whole c.new-lines.ensures.first (to_leg.fails fault fails))

pub returns-clause-read : goal.returns-clause-read
returns-clause-read c =
    let version = c.in_ok-version.version in
    let head = c.in_ok-head.head in
    let said : Said = (version, row_with head c.in_ok-base.base c.in_ok-plan.plan c.in_ok-plan.lmcs) in
    let to_leg = past_said starts_with_version c.new-lines.result c.next_said.new.lines version c.in_ok-version.ensures.read c.in_ok-version.ensures.counted in
    let rest = c.in_ok-plan.ensures.read version c.in_ok-head.ensures.spelled c.in_ok-base.ensures.spelled in
    let figures = (c.in_ok-base.ensures.read version head).read said rest.0 rest.1 in
    let behind = c.in_ok-head.ensures.read.read said figures.0 figures.1 in
    let all = to_leg.read said behind.0 behind.1 in
    (version, record { is = sym c.new-lines.ensures.whole ∙ all.1; spelled = all.0 })
