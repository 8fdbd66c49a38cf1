use Rattle.std.proofs.Common.{Option, ap, ◌∙◌}
use Rattle.std.specs.Prelude.{unwrap_or}
use Rattle.flight_state.specs.declared.state.Stage.{Stage}
use Rattle.flight_history.specs.Standing.{stage_by, stage_after}
use Rattle.flight_history.proofs.PlainLemmas.{acts-all, told-more}
use Rattle.flight_history.proofs.plain.stage_after.Goals as goal

pub loop-entry-preserved : goal.loop-entry-preserved
loop-entry-preserved c =
    c.unwrap_or-stage.ensures ∙ ap (λ (o : Option Stage). unwrap_or o c.loop-entry.stage) c.stage_by.ensures
    ∙ told-more stage_by c.args.opened.now.stage c.loop-entry.stage c.args.entries.now c.loop-entry.entry-index c.entry-item.result c.loop-entry-test.true c.entry-item.is c.loop-entry.invariant

pub returns : goal.returns
returns c = c.loop-entry.invariant ∙ ap (stage_after c.args.opened.now) (acts-all c.args.entries.now c.loop-entry.entry-index c.loop-entry-test.false)
