use Rattle.std.proofs.Common.{refl, subst, sym}
use Rattle.certificate.specs.Evidence.{claimed}
use Rattle.priced_checker.specs.Good.{IsGoodPriced}
use Rattle.hold_reach.proofs.ViableLemmas.{band-in_order}
use Rattle.task_answers.specs.declared.reply.Outcome.TheVariants.{Done, Rejected}
use Rattle.plan_answers.specs.PricedReply.{IsPricedJudgement}
use Rattle.plan_answers.specs.PricedReply.IsPricedJudgement.{good, rejected}
use Rattle.plan_answers.proofs.JobLemmas.{true-claim}
use Rattle.plan_answers.proofs.priced_jobs.judgement_of_prices.Goals as goal

pub returns-in_ok-good_line-in-Ok : goal.returns-in_ok-good_line-in-Ok
returns-in_ok-good_line-in-Ok c =
    let t = c.args.task.now in
    let it = c.args.certificate.now in
    let laws = c.priced_certificate_laws.ensures in
    let band = band-in_order t c.items-lawful.ensures.lawful in
    let is = c.in-Ok.ensures.good.0 refl in
    subst (IsPricedJudgement t it Done) (sym c.in_ok-good_line-in-Ok.ensures)
    (good is
    (true-claim t (claimed it.claim)
    (λ path claims. laws.best t path it.cuts it.expanded band (subst (λ claim. IsGoodPriced t claim it.cuts it.expanded) claims is))
    (λ none. laws.none t it.cuts it.expanded band (subst (λ claim. IsGoodPriced t claim it.cuts it.expanded) none is))))

pub returns-in_ok-rejected_line-in-Err : goal.returns-in_ok-rejected_line-in-Err
returns-in_ok-rejected_line-in-Err c =
    subst (IsPricedJudgement c.args.task.now c.args.certificate.now Rejected) (sym c.in_ok-rejected_line-in-Err.ensures) (rejected c.in-Err.reason c.in-Err.ensures.refused)
