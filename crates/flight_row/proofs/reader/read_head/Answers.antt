use Rattle.std.proofs.Common.{refl, lit≤}
use Rattle.std.proofs.lemmas.Result.{err_from_is_err_and}
use Rattle.flight_state.specs.declared.state.Stage.TheVariants.{Working}
use Rattle.text_lines.proofs.Rests.{then, past_said}
use Rattle.flight_row.specs.declared.reader.Head.{Head}
use Rattle.flight_row.proofs.RowParts.{head_with, some_leg, no_figures, some_row, leg_right, head_right, no_figures_right, some_right, fails_at_next, fails_at_releases, starts_with_leg, starts_with_edition, starts_with_stage, past_releases}
use Rattle.flight_row.proofs.ReadLemmas.{has_read}
use Rattle.flight_row.proofs.reader.read_head.Goals as goal

pub returns-in_err-leg-clause-refused : goal.returns-in_err-leg-clause-refused
returns-in_err-leg-clause-refused c =
    let version = c.args.version in
    let right = head_right version some_leg 1 Working leg_right (lit≤ tt, lit≤ tt) in
    let p = err_from_is_err_and c.from_residual.result c.from_residual.ensures.1 in
    rw (p.1, p.2) (fails_at_next (starts_with_leg version) (version, some_row (head_with some_leg 1 Working) no_figures) (some_right right no_figures_right, refl) c.args.lines.now c.in_err-leg.field-0.0 c.in_err-leg.ensures.refused)

pub returns-in_err-edition-clause-refused : goal.returns-in_err-edition-clause-refused
returns-in_err-edition-clause-refused c =
    let version = c.args.version in
    let head = head_with c.in_ok-leg.leg 1 Working in
    let right = head_right version c.in_ok-leg.leg 1 Working c.in_ok-leg.ensures.read.0 (lit≤ tt, lit≤ tt) in
    let l1 = c.next_said.new.lines in
    let fault = c.in_err-edition.field-0.0 in
    let to_edition = past_said (starts_with_leg version) c.args.lines.now l1 c.in_ok-leg.leg c.in_ok-leg.ensures.read c.in_ok-leg.ensures.counted in
    let p = err_from_is_err_and c.from_residual-in_err-edition.result c.from_residual-in_err-edition.ensures.1 in
    rw (p.1, p.2) (to_edition.fails fault (fails_at_next (starts_with_edition version head) (version, some_row head no_figures) ((some_right right no_figures_right, refl), refl) l1 fault c.in_err-edition.ensures.refused))

pub returns-in_err-stage-clause-refused : goal.returns-in_err-stage-clause-refused
returns-in_err-stage-clause-refused c =
    let version = c.args.version in
    let l1 = c.next_said.new.lines in
    let l2 = c.next_said-2.new.lines in
    let fault = c.in_err-stage.field-0.0 in
    let head = head_with c.in_ok-leg.leg c.in_ok-edition.edition Working in
    let right = head_right version c.in_ok-leg.leg c.in_ok-edition.edition Working c.in_ok-leg.ensures.read.0 c.in_ok-edition.ensures.read.0 in
    let to_edition = past_said (starts_with_leg version) c.args.lines.now l1 c.in_ok-leg.leg c.in_ok-leg.ensures.read c.in_ok-leg.ensures.counted in
    let to_stage = then to_edition (past_said (starts_with_edition version head) l1 l2 c.in_ok-edition.edition c.in_ok-edition.ensures.read c.in_ok-edition.ensures.counted) in
    let p = err_from_is_err_and c.from_residual-in_err-stage.result c.from_residual-in_err-stage.ensures.1 in
    rw (p.1, p.2) (to_stage.fails fault (fails_at_next (starts_with_stage version head) (version, some_row head no_figures) (((some_right right no_figures_right, refl), refl), refl) l2 fault c.in_err-stage.ensures.refused))

pub returns-in_err-releases-clause-refused : goal.returns-in_err-releases-clause-refused
returns-in_err-releases-clause-refused c =
    let version = c.args.version in
    let l1 = c.next_said.new.lines in
    let l2 = c.next_said-2.new.lines in
    let l3 = c.next_said-3.new.lines in
    let fault = c.in_err-releases.field-0.0 in
    let head = head_with c.in_ok-leg.leg c.in_ok-edition.edition c.in_ok-stage.stage in
    let right = head_right version c.in_ok-leg.leg c.in_ok-edition.edition c.in_ok-stage.stage c.in_ok-leg.ensures.read.0 c.in_ok-edition.ensures.read.0 in
    let to_edition = past_said (starts_with_leg version) c.args.lines.now l1 c.in_ok-leg.leg c.in_ok-leg.ensures.read c.in_ok-leg.ensures.counted in
    let to_stage = then to_edition (past_said (starts_with_edition version head) l1 l2 c.in_ok-edition.edition c.in_ok-edition.ensures.read c.in_ok-edition.ensures.counted) in
    let to_releases = then to_stage (past_said (starts_with_stage version head) l2 l3 c.in_ok-stage.stage c.in_ok-stage.ensures.read c.in_ok-stage.ensures.counted) in
    let p = err_from_is_err_and c.from_residual-in_err-releases.result c.from_residual-in_err-releases.ensures.1 in
    rw (p.1, p.2) (to_releases.fails fault (fails_at_releases version head right l3 fault c.in_err-releases.ensures.refused))

pub returns-clause-spelled : goal.returns-clause-spelled
returns-clause-spelled c = record { leg = c.in_ok-leg.ensures.read.0; edition = c.in_ok-edition.ensures.read.0; releases = c.in_ok-releases.ensures.read.right }

pub returns-clause-read : goal.returns-clause-read
returns-clause-read c =
    let version = c.args.version in
    let l1 = c.next_said.new.lines in
    let l2 = c.next_said-2.new.lines in
    let l3 = c.next_said-3.new.lines in
    let head : Head = record { leg = c.in_ok-leg.leg; edition = c.in_ok-edition.edition; stage = c.in_ok-stage.stage; releases = c.in_ok-releases.releases } in
    let to_edition = past_said (starts_with_leg version) c.args.lines.now l1 c.in_ok-leg.leg c.in_ok-leg.ensures.read c.in_ok-leg.ensures.counted in
    let to_stage = then to_edition (past_said (starts_with_edition version head) l1 l2 c.in_ok-edition.edition c.in_ok-edition.ensures.read c.in_ok-edition.ensures.counted) in
    let to_releases = then to_stage (past_said (starts_with_stage version head) l2 l3 c.in_ok-stage.stage c.in_ok-stage.ensures.read c.in_ok-stage.ensures.counted) in
    has_read (then to_releases (past_releases version head l3 c.next_releases.new.lines c.in_ok-releases.ensures.read))
