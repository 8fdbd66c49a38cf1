use Rattle.std.proofs.Common.{subst, sym}
use Rattle.task_answers.specs.Found.{HasPath}
use Rattle.task_answers.proofs.TreeJobLemmas.{items_of}
use Rattle.task_answers.proofs.near_jobs.find_near.Goals as goal

pub returns-clause-placing : goal.returns-clause-placing
returns-clause-placing g c = c.in_ok-reply.ensures.placing c.args.budget c.in_ok-answer.ensures

pub returns-clause-path : goal.returns-clause-path
returns-clause-path g c =
    let t = c.args.task.now in
    subst (λ o. HasPath t o (items_of c.path_of-path.result)) (sym c.in_ok-reply.ensures.outcome) (c.path_of-path.ensures t c.args.budget c.in_ok-answer.ensures)
