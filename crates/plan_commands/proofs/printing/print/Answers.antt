use Rattle.std.proofs.Common.{sym, subst}
use Rattle.plan_commands.specs.Commands.{AreCommand}
use Rattle.plan_commands.specs.Arguments.{arguments_of}
use Rattle.plan_commands.proofs.CommandLemmas.{read-command}
use Rattle.plan_commands.proofs.printing.print.Goals as goal

pub returns : goal.returns
returns g c =
    let arguments = arguments_of c.args.arguments.now in
    c.run_command.ensures arguments
    (subst (AreCommand arguments) (sym c.as_ref.ensures.value) (read-command arguments c.command_of-command.result c.command_of-command.ensures.some c.command_of-command.ensures.none))
