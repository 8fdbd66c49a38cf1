use Rattle.std.proofs.Common.{◌∙◌}
use Rattle.std.proofs.lemmas.Result.{err_from_is_err_and}
use Rattle.stop_text.proofs.LoadLemmas.{task_told, load_told}
use Rattle.stop_text.proofs.load.load_of.Goals as goal

pub returns-in_err-tasks : goal.returns-in_err-tasks
returns-in_err-tasks c =
    let p = err_from_is_err_and c.from_residual.result c.from_residual.ensures.1 in
    rw (p.1, p.2) (λ file parts. task_told file c.in_err-tasks.field-0.0 (c.in_err-tasks.ensures file.first file.second file.third parts.first parts.second parts.third))

pub returns : goal.returns
returns c = λ file parts.
    load_told file c.in_ok-tasks.tasks c.as_slice.result.now c.as_slice-2.result.now (c.in_ok-tasks.ensures file.first file.second file.third parts.first parts.second parts.third)
    (c.as_slice.ensures.value ∙ parts.leaves) (c.as_slice-2.ensures.value ∙ parts.behind) c.assembled.result c.assembled.ensures.made c.assembled.ensures.refused
