use Rattle.std.proofs.Common.{◌<◌, ◌≤◌, arith, refl, subst}
use Rattle.std.specs.Prelude.{vec_len}
use Rattle.plan_commands.specs.Arguments.{arguments_of}
use Rattle.loadctl.specs.Asked.{AskOne, AskForServeOver}
use Rattle.loadctl.specs.Serve.RunsAtDoors.{without, asked_serve}
use Rattle.loadctl.proofs.AskedLemmas.{ask-one, ask-serve, one-no_serve}
use Rattle.loadctl.proofs.ServeLemmas.{serve-complete}
use Rattle.loadctl.proofs.program.run.Goals as goal

pub serve_office-requires-clause-doors : goal.serve_office-requires-clause-doors
serve_office-requires-clause-doors g c _ _ =
    let serve = c.in-Serve.serve in
    let asked = ask-serve (arguments_of c.as_slice.result.now) c.asked_by.result serve c.asked_by.ensures c.in-Serve.is in
    let over = subst (λ words. AskForServeOver (arguments_of words) serve.desks serve.port serve.store.now (arguments_of serve.fleet.now)) c.as_slice.ensures.value asked in
    let same = c.requires.doors serve.desks serve.port (arguments_of serve.fleet.now) over.serve in
    let some = over.serve.some_desks in
    let few = over.serve.few_desks in
    let are : (0 < vec_len c.args.doors) × (vec_len c.args.doors ≤ 8) = (omega (arith, same, some), omega (arith, same, few)) in
    are

pub returns-in-One : goal.returns-in-One
returns-in-One g c =
    let arguments = arguments_of c.args.words.now.items in
    let are = ask-one (arguments_of c.as_slice.result.now) c.asked_by.result c.in-One.asked c.asked_by.ensures c.in-One.is in
    let one = subst (λ words. AskOne (arguments_of words) c.in-One.asked) c.as_slice.ensures.value are in
    without (one-no_serve arguments c.in-One.asked one) (c.run_asked-status.ensures arguments one) refl

pub returns-in-Serve : goal.returns-in-Serve
returns-in-Serve g c =
    let serve = c.in-Serve.serve in
    let are = ask-serve (arguments_of c.as_slice.result.now) c.asked_by.result serve c.asked_by.ensures c.in-Serve.is in
    let over = subst (λ words. AskForServeOver (arguments_of words) serve.desks serve.port serve.store.now (arguments_of serve.fleet.now)) c.as_slice.ensures.value are in
    let office = c.serve_office.ensures in
    asked_serve serve.desks serve.port (arguments_of serve.fleet.now) over.serve
    office.same_files office.never_falls (office.ends _ _) (serve-complete _ _ _ _ _ _ _ _ _ _ _ _ _ _ _ (office.ends _ _))
