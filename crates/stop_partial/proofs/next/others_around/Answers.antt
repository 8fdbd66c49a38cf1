use Rattle.std.proofs.Common.{◌≡◌, refl, Some, None}
use Rattle.hold_reach.specs.Reach.{wide_reach}
use Rattle.stop_partial.proofs.NextLemmas.{difference-bound, difference-fits, difference-read, holds-next, holds-none, next-bounded}
use Rattle.stop_partial.proofs.next.others_around.Goals as goal

pub overflow_sub-result : goal.overflow_sub-result
overflow_sub-result c =
    let there : wide_reach c.args.partial.now.task c.args.partial.now.prefix ≡ Some (c.in-Some.low.0, c.in-Some.high.0) = rw (← c.wide_reach.ensures, c.in-Some.is) refl in
    let bounds = next-bounded _ _ (c.in-Some.low.0, c.in-Some.high.0) c.requires.low.position c.task-lawful.ensures.lawful c.requires.low.sound there in
    difference-fits c.in-Some.low.0 c.args.moments.low bounds.0 c.requires.bounded.0

pub overflow_sub-result-in-Some : goal.overflow_sub-result-in-Some
overflow_sub-result-in-Some c =
    let there : wide_reach c.args.partial.now.task c.args.partial.now.prefix ≡ Some (c.in-Some.low.0, c.in-Some.high.0) = rw (← c.wide_reach.ensures, c.in-Some.is) refl in
    let bounds = next-bounded _ _ (c.in-Some.low.0, c.in-Some.high.0) c.requires.low.position c.task-lawful.ensures.lawful c.requires.low.sound there in
    difference-fits c.in-Some.high.0 c.args.moments.high bounds.1 c.requires.bounded.1

pub returns-in-Some-clause-holds : goal.returns-in-Some-clause-holds
returns-in-Some-clause-holds c =
    let there : wide_reach c.args.partial.now.task c.args.partial.now.prefix ≡ Some (c.in-Some.low.0, c.in-Some.high.0) = rw (← c.wide_reach.ensures, c.in-Some.is) refl in
    let bounds = next-bounded _ _ (c.in-Some.low.0, c.in-Some.high.0) c.requires.low.position c.task-lawful.ensures.lawful c.requires.low.sound there in
    holds-next _ _ (c.in-Some.low.0, c.in-Some.high.0) c.args.moments _ there c.requires
    (difference-read c.in-Some.low.0 c.args.moments.low bounds.0 c.requires.bounded.0)
    (difference-read c.in-Some.high.0 c.args.moments.high bounds.1 c.requires.bounded.1)

pub returns-in-Some-clause-bounded : goal.returns-in-Some-clause-bounded
returns-in-Some-clause-bounded c =
    let there : wide_reach c.args.partial.now.task c.args.partial.now.prefix ≡ Some (c.in-Some.low.0, c.in-Some.high.0) = rw (← c.wide_reach.ensures, c.in-Some.is) refl in
    let bounds = next-bounded _ _ (c.in-Some.low.0, c.in-Some.high.0) c.requires.low.position c.task-lawful.ensures.lawful c.requires.low.sound there in (
      difference-bound c.in-Some.low.0 c.args.moments.low bounds.0 c.requires.bounded.0,
      difference-bound c.in-Some.high.0 c.args.moments.high bounds.1 c.requires.bounded.1,
    )

pub returns-in-None-clause-holds : goal.returns-in-None-clause-holds
returns-in-None-clause-holds c =
    let none : wide_reach c.args.partial.now.task c.args.partial.now.prefix ≡ None = rw (← c.wide_reach.ensures, c.in-None.is) refl in
    holds-none _ _ c.at.result none
