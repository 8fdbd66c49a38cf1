use Rattle.plan_commands.proofs.printing.run_command.Goals as goal

pub returns : goal.returns
returns g c arguments are =
    record { ending = c.print_reply.result; status_is = c.exit_status.ensures; run = c.print_reply.ensures arguments are }
