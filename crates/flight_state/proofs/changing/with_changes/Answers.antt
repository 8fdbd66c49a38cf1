use Rattle.std.proofs.Common.{ap, ◌∙◌, arith}
use Rattle.flight_state.specs.Effective.{can_add, with_change, with_changes}
use Rattle.flight_state.proofs.ChangeLemmas.{left-next, left-more, left-none}
use Rattle.flight_state.proofs.changing.with_changes.Goals as goal

pub with_change-requires : goal.with_change-requires
with_change-requires c =
    let f = c.loop-change.figures in
    let changes = c.args.changes.now in
    ap (can_add f) c.change-item.is
    ∙ left-next (with_changes c.args.base changes) f changes c.loop-change.change-index c.change-item.result c.loop-change-test.true c.loop-change.invariant

pub loop-change-preserved : goal.loop-change-preserved
loop-change-preserved c =
    let f = c.loop-change.figures in
    let changes = c.args.changes.now in
    left-more (with_changes c.args.base changes) f c.in_ok-next.next changes c.loop-change.change-index c.change-item.result c.loop-change-test.true
    (c.in_ok-next.ensures ∙ ap (with_change f) c.change-item.is) c.loop-change.invariant

pub returns : goal.returns
returns c =
    left-none (with_changes c.args.base c.args.changes.now) c.loop-change.figures c.args.changes.now c.loop-change.change-index (omega arith) c.loop-change.invariant
