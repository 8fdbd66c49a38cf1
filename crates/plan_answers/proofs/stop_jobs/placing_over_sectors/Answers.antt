use Rattle.plan_answers.proofs.StopJobLemmas.{is-stop-placing}
use Rattle.plan_answers.proofs.stop_jobs.placing_over_sectors.Goals as goal

pub returns : goal.returns
returns c =
    rw c.outcome_of.ensures
    (is-stop-placing c.args.stops.now c.args.budget c.in_ok-answer.answer _ c.in_ok-answer.ensures c.in_ok-write_stop_answer.ensures)
