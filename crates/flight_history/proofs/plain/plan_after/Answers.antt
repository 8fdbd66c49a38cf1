use Rattle.std.proofs.Common.{ap, ◌∙◌}
use Rattle.flight_history.specs.Standing.{plan_by, plan_after}
use Rattle.flight_history.proofs.PlainLemmas.{acts-all, told-more}
use Rattle.flight_history.proofs.plain.plan_after.Goals as goal

pub loop-entry-preserved : goal.loop-entry-preserved
loop-entry-preserved c =
    c.plan_then-plan.ensures
    ∙ told-more plan_by c.args.opened.now.plan c.loop-entry.plan c.args.entries.now c.loop-entry.entry-index c.entry-item.result c.loop-entry-test.true c.entry-item.is c.loop-entry.invariant

pub returns : goal.returns
returns c = c.loop-entry.invariant ∙ ap (plan_after c.args.opened.now) (acts-all c.args.entries.now c.loop-entry.entry-index c.loop-entry-test.false)
