use Rattle.plan_answers.specs.Limits.{longest_task}
use Rattle.plan_commands.specs.Reply.{IsRefusal}
use Rattle.plan_commands.proofs.FileLemmas.{IfErr-from_residual, long-halt, long-refused}
use Rattle.plan_commands.proofs.files.task_from.Goals as goal

pub returns-in_err-bytes-clause-refused : goal.returns-in_err-bytes-clause-refused
returns-in_err-bytes-clause-refused g c =
    let halt = c.in_err-bytes.field-0.0 in
    IfErr-from_residual c.from_residual.result halt _ c.from_residual.ensures.1
    (long-halt halt (g.F.Shelf.files c.args.shelf.now) c.args.name.now longest_task (λ line bytes. IsRefusal bytes line) c.in_err-bytes.ensures.long c.in_err-bytes.ensures.line long-refused)
