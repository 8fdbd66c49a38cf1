use Rattle.plan_answers.specs.Limits.{longest_priced}
use Rattle.plan_answers.specs.PricedReply.{IsPricedRefusal}
use Rattle.plan_commands.proofs.FileLemmas.{IfErr-from_residual, long-halt, long-prices-refused}
use Rattle.plan_commands.proofs.files.priced_from.Goals as goal

pub returns-in_err-bytes-clause-refused : goal.returns-in_err-bytes-clause-refused
returns-in_err-bytes-clause-refused g c =
    let halt = c.in_err-bytes.field-0.0 in
    let t = c.args.task.now in
    IfErr-from_residual c.from_residual.result halt _ c.from_residual.ensures.1
    (long-halt halt (g.F.Shelf.files c.args.shelf.now) c.args.name.now longest_priced (λ line bytes. IsPricedRefusal t bytes line) c.in_err-bytes.ensures.long c.in_err-bytes.ensures.line (long-prices-refused t))
