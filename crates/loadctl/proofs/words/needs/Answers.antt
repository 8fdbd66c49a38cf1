use Rattle.std.proofs.Common.{subst}
use Rattle.plan_commands.specs.Arguments.{arguments_of}
use Rattle.loadctl.specs.Asked.{AskOne, AskForServeOver}
use Rattle.loadctl.proofs.AskedLemmas.{ask-one, ask-serve}
use Rattle.loadctl.proofs.NeedLemmas.{needed-serve}
use Rattle.loadctl.proofs.words.needs.Goals as goal

pub returns-in-One-clause-needed : goal.returns-in-One-clause-needed
returns-in-One-clause-needed c =
    let are = ask-one (arguments_of c.as_slice.result.now) c.asked_by.result c.in-One.one c.asked_by.ensures c.in-One.is in
    c.needs_of.ensures.needed (arguments_of c.args.words.now.items) (subst (λ words. AskOne (arguments_of words) c.in-One.one) c.as_slice.ensures.value are)

pub returns-in-One-clause-usage : goal.returns-in-One-clause-usage
returns-in-One-clause-usage c =
    let are = ask-one (arguments_of c.as_slice.result.now) c.asked_by.result c.in-One.one c.asked_by.ensures c.in-One.is in
    c.needs_of.ensures.usage (arguments_of c.args.words.now.items) (subst (λ words. AskOne (arguments_of words) c.in-One.one) c.as_slice.ensures.value are)

pub returns-in-One-clause-invalid : goal.returns-in-One-clause-invalid
returns-in-One-clause-invalid c =
    let are = ask-one (arguments_of c.as_slice.result.now) c.asked_by.result c.in-One.one c.asked_by.ensures c.in-One.is in
    c.needs_of.ensures.invalid (arguments_of c.args.words.now.items) (subst (λ words. AskOne (arguments_of words) c.in-One.one) c.as_slice.ensures.value are)

pub returns-in-Serve-clause-needed : goal.returns-in-Serve-clause-needed
returns-in-Serve-clause-needed c =
    let serve = c.in-Serve.serve in
    let are = ask-serve (arguments_of c.as_slice.result.now) c.asked_by.result serve c.asked_by.ensures c.in-Serve.is in
    let place = c.place_of_file.ensures in
    needed-serve (arguments_of c.args.words.now.items) serve.desks serve.port serve.store.now (arguments_of serve.fleet.now)
    (subst (λ words. AskForServeOver (arguments_of words) serve.desks serve.port serve.store.now (arguments_of serve.fleet.now)) c.as_slice.ensures.value are) _ place.some place.none

pub returns-in-Serve-clause-invalid : goal.returns-in-Serve-clause-invalid
returns-in-Serve-clause-invalid c nothing =
    let serve = c.in-Serve.serve in
    let are = ask-serve (arguments_of c.as_slice.result.now) c.asked_by.result serve c.asked_by.ensures c.in-Serve.is in
    let over = subst (λ words. AskForServeOver (arguments_of words) serve.desks serve.port serve.store.now (arguments_of serve.fleet.now)) c.as_slice.ensures.value are in
    absurd (nothing.no_desks serve.desks serve.port (arguments_of serve.fleet.now) over.serve)
