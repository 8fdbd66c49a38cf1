use Rattle.std.proofs.lemmas.Result.{err_from_is_err_and}
use Rattle.stop_text.proofs.LoadLemmas.{third_fault}
use Rattle.stop_text.proofs.load.third_of.Goals as goal

pub returns-in_err-task_of-in-Some : goal.returns-in_err-task_of-in-Some
returns-in_err-task_of-in-Some c =
    let p = err_from_is_err_and c.from_residual.result c.from_residual.ensures.1 in
    rw (p.1, p.2, c.in-Some.is) (λ t is. third_fault t c.in-Some.sector c.in_err-task_of-in-Some.field-0.0 c.in_err-task_of-in-Some.ensures is)
