use Rattle.plan_answers.specs.Limits.{longest_certificate}
use Rattle.plan_answers.specs.AnyReply.{IsAnyRefusal}
use Rattle.plan_commands.proofs.FileLemmas.{IfErr-from_residual, long-halt, long-any-refused}
use Rattle.plan_commands.proofs.files.any_from.Goals as goal

pub returns-in_err-bytes-clause-refused : goal.returns-in_err-bytes-clause-refused
returns-in_err-bytes-clause-refused g c =
    let halt = c.in_err-bytes.field-0.0 in
    let t = c.args.task.now in
    IfErr-from_residual c.from_residual.result halt _ c.from_residual.ensures.1
    (long-halt halt (g.F.Shelf.files c.args.shelf.now) c.args.name.now longest_certificate (λ line bytes. IsAnyRefusal t bytes line) c.in_err-bytes.ensures.long c.in_err-bytes.ensures.line (long-any-refused t))
