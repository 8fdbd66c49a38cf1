use Rattle.std.proofs.Common.{rules, refl}
use Rattle.plan_commands.specs.Commands.{job_of}
use Rattle.plan_commands.proofs.CommandLemmas.{none-invalid, some-command}
use Rattle.plan_commands.proofs.ReplyLemmas.{usage-reply, answered-reply, refused-reply, answered-not_usage}
use Rattle.plan_commands.proofs.printing.reply_to.Goals as goal

pub returns-in_default-clause-replied : goal.returns-in_default-clause-replied
returns-in_default-clause-replied g c arguments are =
    usage-reply arguments (g.F.Shelf.files c.args.shelf.now) _ _ (none-invalid arguments c.args.command are (search rules)) refl c.in_ok-word_line.ensures

pub returns-in-Ok-clause-replied : goal.returns-in-Ok-clause-replied
returns-in-Ok-clause-replied g c arguments are =
    answered-reply arguments (g.F.Shelf.files c.args.shelf.now) (job_of c.in-Some.command.now) _ _
    (some-command arguments c.args.command c.in-Some.command are (search rules)) c.in-Ok.ensures.answered

pub returns-in-Ok-clause-usage : goal.returns-in-Ok-clause-usage
returns-in-Ok-clause-usage g c = λ is. absurd (answered-not_usage c.in-Ok.reply.outcome c.in-Ok.ensures.answers is)

pub returns-in-Err-BadInput-clause-replied : goal.returns-in-Err-BadInput-clause-replied
returns-in-Err-BadInput-clause-replied g c arguments are =
    let wrong = rw c.in-Err-BadInput.field-0-is at c.in-Err-BadInput.ensures.refused in
    refused-reply arguments (g.F.Shelf.files c.args.shelf.now) (job_of c.in-Some.command.now) c.in-Err-BadInput.text.items
    (some-command arguments c.args.command c.in-Some.command are (search rules)) wrong
