use Rattle.std.proofs.Common.{subst}
use Rattle.task_answers.specs.NearReply.{IsPlacing}
use Rattle.task_answers.proofs.TreeJobLemmas.{placing-decided, undecided-found}
use Rattle.task_answers.proofs.tree_jobs.find_without_trees.Goals as goal

pub returns-in-OverBudget : goal.returns-in-OverBudget
returns-in-OverBudget g c =
    let reply = c.in_ok-found.found.reply in
    let placing = subst (λ b. IsPlacing c.args.task.now b reply.outcome reply.text.items) c.min.ensures c.in_ok-found.ensures.placing in
    undecided-found c.args.task.now c.args.looks _ _ c.undecided.result placing c.in-OverBudget.is c.undecided.ensures.outcome c.undecided.ensures.text
    c.undecided.ensures.path

pub returns-in_default : goal.returns-in_default
returns-in_default g c =
    let reply = c.in_ok-found.found.reply in
    let placing = subst (λ b. IsPlacing c.args.task.now b reply.outcome reply.text.items) c.min.ensures c.in_ok-found.ensures.placing in
    record { placing = placing-decided c.args.task.now c.args.looks _ _ placing c.in_default.not-OverBudget; has_path = c.in_ok-found.ensures.path }
