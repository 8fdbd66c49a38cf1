use Rattle.std.proofs.Common.{ap, refl, subst}
use Rattle.plan_commands.specs.Arguments.{arguments_of}
use Rattle.loadctl.specs.Asked.{AskOne, AskForServeOver}
use Rattle.loadctl.specs.Desk.Runs.{printed}
use Rattle.loadctl.proofs.AskedLemmas.{ask-one, ask-serve, desk-no_serve, serve-no_command}
use Rattle.loadctl.proofs.program.run_one.Goals as goal

pub returns-in-One : goal.returns-in-One
returns-in-One g c =
    let are = ask-one (arguments_of c.as_slice.result.now) c.asked_by.result c.in-One.asked c.asked_by.ensures c.in-One.is in
    c.run_asked.ensures (arguments_of c.args.words.now.items) (subst (λ words. AskOne (arguments_of words) c.in-One.asked) c.as_slice.ensures.value are)

pub returns-in-Serve : goal.returns-in-Serve
returns-in-Serve g c =
    let arguments = arguments_of c.args.words.now.items in
    let serve = c.in-Serve.field-0 in
    let are = ask-serve (arguments_of c.as_slice.result.now) c.asked_by.result serve c.asked_by.ensures c.in-Serve.is in
    let over = subst (λ words. AskForServeOver (arguments_of words) serve.desks serve.port serve.store.now (arguments_of serve.fleet.now)) c.as_slice.ensures.value are in
    let alone = c.run_task.ensures in
    printed record {
      no_desk = λ names desk. desk-no_serve arguments names desk serve.desks serve.port (arguments_of serve.fleet.now) over.serve;
      exits = alone.exits arguments (serve-no_command arguments serve.desks serve.port (arguments_of serve.fleet.now) over.serve);
      tables = ap g.K.Keeper.tables alone.keeper;
      failed = ap g.K.Keeper.faults alone.keeper;
      unheard = record { input = refl; reads = refl };
      unopened = alone.unopened;
      unasked = alone.unasked;
    }
