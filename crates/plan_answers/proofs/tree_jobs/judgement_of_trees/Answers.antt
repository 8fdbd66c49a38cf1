use Rattle.std.proofs.Common.{refl, subst, sym}
use Rattle.tree_certificate.specs.Listed.{listed_trees}
use Rattle.task_answers.specs.declared.reply.Outcome.TheVariants.{Done}
use Rattle.plan_answers.specs.TreeReply.{IsTreeJudgement}
use Rattle.plan_answers.specs.TreeReply.IsTreeJudgement.{good}
use Rattle.certificate.specs.Evidence.{claimed}
use Rattle.plan_answers.proofs.JobLemmas.{true-claim}
use Rattle.plan_answers.proofs.TreeJobLemmas.{rejected-judgement}
use Rattle.plan_answers.proofs.tree_jobs.judgement_of_trees.Goals as goal

pub returns-in_ok-good_line-in-Ok : goal.returns-in_ok-good_line-in-Ok
returns-in_ok-good_line-in-Ok c =
    let t = c.args.task.now in
    let trees = listed_trees c.args.certificate.now in
    let laws = c.tree_certificate_laws.ensures in
    let is = c.in-Ok.ensures.good in
    subst (IsTreeJudgement t trees Done) (sym c.in_ok-good_line-in-Ok.ensures)
    (good is (true-claim t (claimed trees.claim) (λ path claims. laws.best t trees path c.items-lawful.ensures.lawful claims is) (λ none. laws.none t trees none is)))

pub returns-in_ok-rejected_trees_line-in-Err : goal.returns-in_ok-rejected_trees_line-in-Err
returns-in_ok-rejected_trees_line-in-Err c =
    rejected-judgement _ c.args.task.now (listed_trees c.args.certificate.now) c.in-Err.reason _ refl c.in-Err.ensures.accepted c.in-Err.ensures.refused
    c.in_ok-rejected_trees_line-in-Err.ensures
