use Rattle.std.proofs.Common.{refl, sym, subst}
use Rattle.plan_commands.specs.Run.{IsRun}
use Rattle.plan_commands.proofs.CommandLemmas.{no-command, none-invalid}
use Rattle.plan_commands.proofs.RunLemmas.{run-printed, run-cut, run-stopped, Err-from_residual}
use Rattle.plan_commands.proofs.printing.print_reply.Goals as goal

pub returns-in_err-reply : goal.returns-in_err-reply
returns-in_err-reply g c arguments are =
    let reply = c.reply_to.ensures in
    subst (IsRun arguments _ _) (sym (Err-from_residual c.from_residual.result c.in_err-reply.field-0.0 c.from_residual.ensures.1))
    (run-stopped _ arguments _ _ c.reply_to.result c.in_err-reply.field-0.0 c.in_err-reply.was
    (λ invalid. reply.unread (no-command arguments c.args.command are invalid)) reply.unwritten reply.counted reply.uncounted reply.same refl refl)

pub returns-in-Ok : goal.returns-in-Ok
returns-in-Ok g c arguments are =
    let reply = c.in_ok-reply.ensures in
    run-printed arguments _ _ c.in_ok-reply.reply.outcome c.in_ok-reply.reply.text.items _ c.as_slice.ensures.value
    (reply.replied arguments are) (λ is. (none-invalid arguments c.args.command are (reply.usage is).0, (reply.usage is).1))
    (λ invalid. reply.invalid (no-command arguments c.args.command are invalid))
    c.in-Ok.ensures.whole reply.same (reply.uncounted (λ e. cc)) c.in-Ok.ensures.uncounted

pub returns : goal.returns
returns g c arguments are =
    let reply = c.in_ok-reply.ensures in
    run-cut arguments _ _ c.in_ok-reply.reply.outcome c.in_ok-reply.reply.text.items _ c.as_slice.ensures.value
    (reply.replied arguments are) c.in-Err.ensures.part reply.same (reply.uncounted (λ e. cc)) c.in-Err.ensures.counted
