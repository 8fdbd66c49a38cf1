use Rattle.plan_answers.proofs.PricedJobLemmas.{is-priced-placing}
use Rattle.plan_answers.proofs.priced_jobs.placing_with_prices.Goals as goal

pub returns : goal.returns
returns c =
    rw c.outcome_of.ensures
    (is-priced-placing c.args.task.now c.args.budget c.in_ok-answer.answer _ c.items-lawful.ensures.lawful c.read_names.ensures
    c.in_ok-answer.ensures c.in_ok-write_priced.ensures)
