use Rattle.std.proofs.lemmas.Result.{err_from_is_err_and}
use Rattle.stop_text.proofs.LoadLemmas.{first_wrong, second_wrong, third_wrong, all_lawful}
use Rattle.stop_text.proofs.load.tasks_of.Goals as goal

pub returns-in_err-task_of : goal.returns-in_err-task_of
returns-in_err-task_of c =
    let p = err_from_is_err_and c.from_residual.result c.from_residual.ensures.1 in
    rw (p.1, p.2) (λ a b third x y z. first_wrong a b third c.in_err-task_of.field-0.0 (c.in_err-task_of.ensures a x))

pub returns-in_err-task_of-2 : goal.returns-in_err-task_of-2
returns-in_err-task_of-2 c =
    let p = err_from_is_err_and c.from_residual-in_err-task_of-2.result c.from_residual-in_err-task_of-2.ensures.1 in
    rw (p.1, p.2) (λ a b third x y z. second_wrong a b third c.in_err-task_of-2.field-0.0 (c.in_ok-task_of.ensures a x).1 (c.in_err-task_of-2.ensures b y))

pub returns-in_err-third_of : goal.returns-in_err-third_of
returns-in_err-third_of c =
    let p = err_from_is_err_and c.from_residual-in_err-third_of.result c.from_residual-in_err-third_of.ensures.1 in
    rw (p.1, p.2) (λ a b third x y z. third_wrong a b third c.in_err-third_of.field-0.0 (c.in_ok-task_of.ensures a x).1 (c.in_ok-task_of-2.ensures b y).1 (c.in_err-third_of.ensures third z))

pub returns : goal.returns
returns c = λ a b third x y z.
    let first = c.in_ok-task_of.ensures a x in
    let second = c.in_ok-task_of-2.ensures b y in
    let last = c.in_ok-third_of.ensures third z in
    record { first = first.0; second = second.0; third = last.0; lawful = all_lawful a b third first.1 second.1 last.1 }
