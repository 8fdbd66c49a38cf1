use Rattle.changed_task.proofs.LawfulTasks.{window-near}
use Rattle.plan_reasons.proofs.limit.low_of.Goals as goal

pub returns-clause-near : goal.returns-clause-near
returns-clause-near c = rw c.low.ensures.value (window-near c.args.task.now c.items-lawful.ensures.lawful).0
