use Rattle.std.proofs.Common.{sym, subst}
use Rattle.hold_limits.specs.Problem.{Problem}
use Rattle.hold_limits.specs.Faults.{IsWellSpelled}
use Rattle.problem_text.specs.Reading.{text_fault}
use Rattle.problem_text.specs.Parts.{problem_of_parts}
use Rattle.problem_text.proofs.KeepLemmas.{well_spelled, task_is_read, fault_is_told, lawful_is_read}
use Rattle.std.proofs.lemmas.Result.{err_from_is_err_and}
use Rattle.problem_text.proofs.RefusalLemmas.{lawful_not_refused}
use Rattle.problem_text.proofs.reader.read_task.Goals as goal

pub task_of-requires : goal.task_of-requires
task_of-requires c =
    let read = c.in_ok-read_parts.ensures.read in
    let Right : Problem → Type 0 = λ p. IsWellSpelled p.hold in
    subst Right (sym read.2) (well_spelled read.0 read.1.spelled)

pub returns-clause-read : goal.returns-clause-read
returns-clause-read c =
    let read = c.in_ok-read_parts.ensures.read in
    task_is_read c.args.text.now read.0 (problem_of_parts c.in_ok-read_parts.field-0) read.1 read.2 c.task_of.result c.task_of.ensures.made

pub returns-clause-refused : goal.returns-clause-refused
returns-clause-refused c =
    let read = c.in_ok-read_parts.ensures.read in
    fault_is_told c.args.text.now read.0 (problem_of_parts c.in_ok-read_parts.field-0) read.1 read.2 c.task_of.result c.task_of.ensures.refused

pub returns-clause-complete : goal.returns-clause-complete
returns-clause-complete c =
    let read = c.in_ok-read_parts.ensures.read in
    let told = task_is_read c.args.text.now read.0 (problem_of_parts c.in_ok-read_parts.field-0) read.1 read.2 c.task_of.result c.task_of.ensures.made in
    let refused = fault_is_told c.args.text.now read.0 (problem_of_parts c.in_ok-read_parts.field-0) read.1 read.2 c.task_of.result c.task_of.ensures.refused in
    lawful_is_read c.args.text.now c.task_of.result told refused

pub returns-in_err-read_parts-clause-complete : goal.returns-in_err-read_parts-clause-complete
returns-in_err-read_parts-clause-complete c =
    let p = err_from_is_err_and c.from_residual.result c.from_residual.ensures.1 in
    rw (p.1, p.2) (λ t s h k. lawful_not_refused c.args.text.now t (text_fault c.in_err-read_parts.field-0.0) s h k c.in_err-read_parts.ensures.refused)
