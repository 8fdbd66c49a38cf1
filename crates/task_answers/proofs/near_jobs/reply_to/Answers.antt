use Rattle.task_answers.proofs.JobLemmas.{is-placing}
use Rattle.task_answers.proofs.near_jobs.reply_to.Goals as goal

pub returns-clause-placing : goal.returns-clause-placing
returns-clause-placing c = λ budget to.
    rw c.outcome_of.ensures
    (is-placing c.args.task.now budget c.args.answer.now _ c.items-lawful.ensures.lawful c.read_names.ensures to c.has_good_evidence.ensures
    c.in_ok-write_answer.ensures)
