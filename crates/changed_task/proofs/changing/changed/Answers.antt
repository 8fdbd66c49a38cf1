use Rattle.changed_task.proofs.LawfulTasks.{window-near}
use Rattle.changed_task.proofs.changing.changed.Goals as goal

pub in_window-requires-clause-high : goal.in_window-requires-clause-high
in_window-requires-clause-high c = rw c.high.ensures.value (window-near c.args.task.now c.hold-hold.ensures.lawful).1

pub in_window-requires-in-High-clause-low : goal.in_window-requires-in-High-clause-low
in_window-requires-in-High-clause-low c = rw c.low.ensures.value (window-near c.args.task.now c.hold-hold.ensures.lawful).0
