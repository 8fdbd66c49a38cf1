use Rattle.plan_reasons.proofs.DecisionLemmas.{done-plan, none-placed, open-placed}
use Rattle.plan_reasons.proofs.decision.decide.Goals as goal

pub returns-in-Done : goal.returns-in-Done
returns-in-Done g c = done-plan c.args.task.now c.args.looks _ _ _ c.in_ok-found.ensures c.in-Done.is

pub returns-in-NothingFits : goal.returns-in-NothingFits
returns-in-NothingFits g c = none-placed c.args.task.now c.args.looks _ _ c.in_ok-found.ensures.placing c.in-NothingFits.is

pub returns : goal.returns
returns g c = open-placed c.args.task.now c.args.looks _ _ c.in_ok-found.ensures.placing c.in_default.not-Done c.in_default.not-NothingFits
