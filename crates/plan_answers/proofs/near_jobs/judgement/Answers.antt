use Rattle.std.proofs.Common.{refl, subst, sym, ap, ◌∙◌}
use Rattle.task_answers.specs.declared.reply.Outcome.TheVariants.{Done, Rejected}
use Rattle.plan_answers.specs.NearReply.{IsJudgement}
use Rattle.plan_answers.specs.NearReply.IsJudgement.{good, rejected}
use Rattle.plan_answers.specs.ReplyText.{rejected_text}
use Rattle.plan_answers.proofs.JobLemmas.{good-true}
use Rattle.plan_answers.proofs.near_jobs.judgement.Goals as goal

pub returns-in_ok-good_line-in-Ok : goal.returns-in_ok-good_line-in-Ok
returns-in_ok-good_line-in-Ok c =
    let is = c.in-Ok.ensures.good.0 refl in
    subst (IsJudgement c.args.task.now c.args.certificate.now Done) (sym c.in_ok-good_line-in-Ok.ensures)
    (good is (good-true c.args.task.now c.args.certificate.now c.items-lawful.ensures.lawful is))

pub returns-in_ok-rejected_line-in-Err : goal.returns-in_ok-rejected_line-in-Err
returns-in_ok-rejected_line-in-Err c =
    let t = c.args.task.now in
    let line = c.in_ok-rejected_line-in-Err.ensures ∙ ap (rejected_text t) c.from.ensures in
    subst (IsJudgement t c.args.certificate.now Rejected) (sym line) (rejected c.in-Err.reason c.in-Err.ensures.refused)
