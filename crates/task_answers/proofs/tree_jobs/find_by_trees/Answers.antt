use Rattle.task_answers.proofs.tree_jobs.find_by_trees.Goals as goal

pub returns-in-Some : goal.returns-in-Some
returns-in-Some g c = let finds = rw c.in-Some.is at c.in_ok-found.ensures in finds c.args.task.now c.args.looks c.in_ok-answer.ensures
