use Rattle.std.proofs.Common.{ap, refl}
use Rattle.plan_commands.specs.Arguments.{arguments_of}
use Rattle.plan_commands.specs.Commands.{job_of}
use Rattle.loadctl.specs.Desk.Runs.{asked_desk, printed}
use Rattle.loadctl.proofs.AskedLemmas.{ask-task, ask-desk, ask-nothing, command-no_desk}
use Rattle.loadctl.proofs.DeskLemmas.{desk-complete}
use Rattle.loadctl.proofs.program.run_asked.Goals as goal

pub returns-in-Task : goal.returns-in-Task
returns-in-Task g c arguments are =
    let command = ask-task arguments c.args.asked.now c.in-Task.command are c.in-Task.is in
    let alone = c.run_task.ensures in
    printed record {
      no_desk = command-no_desk arguments (job_of c.in-Task.command) command;
      exits = alone.exits arguments command;
      tables = ap g.K.Keeper.tables alone.keeper;
      failed = ap g.K.Keeper.faults alone.keeper;
      unheard = record { input = refl; reads = refl };
      unopened = alone.unopened;
      unasked = alone.unasked;
    }

pub returns-in-Desk : goal.returns-in-Desk
returns-in-Desk g c arguments are =
    let over = ask-desk arguments c.args.asked.now c.in-Desk.desk are c.in-Desk.is in
    let desk = c.serve_desk.ensures in
    asked_desk (arguments_of c.in-Desk.desk.fleet.now) over.desk desk.same_files desk.never_falls desk.ends (desk-complete _ _ _ _ _ _ desk.ends)

pub returns-in-Nothing : goal.returns-in-Nothing
returns-in-Nothing g c arguments are =
    let nothing = ask-nothing arguments c.args.asked.now are c.in-Nothing.is in
    let alone = c.run_task-in-Nothing.ensures in
    printed record {
      no_desk = nothing.no_desk;
      exits = alone.exits arguments nothing.no_command;
      tables = ap g.K.Keeper.tables alone.keeper;
      failed = ap g.K.Keeper.faults alone.keeper;
      unheard = record { input = refl; reads = refl };
      unopened = alone.unopened;
      unasked = alone.unasked;
    }
