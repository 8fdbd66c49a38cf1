use Rattle.stop_trim.proofs.LoadLemmas.{stop-flyable-is}
use Rattle.stop_trim.proofs.stop_task.stop_task_of.Goals as goal

pub returns-in-Ok-clause-admissible : goal.returns-in-Ok-clause-admissible
returns-in-Ok-clause-admissible c path =
    rw c.in-Ok.ensures.made (stop-flyable-is c.args.a.now c.args.sectors.now c.in_ok-tasks.tasks.items c.args.leaves.items c.args.behind.items path c.in_ok-tasks.ensures.tasks)
