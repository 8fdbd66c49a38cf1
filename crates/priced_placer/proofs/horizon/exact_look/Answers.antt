use Rattle.priced_placer.proofs.LookLemmas.{own-waits}
use Rattle.priced_placer.proofs.horizon.exact_look.Goals as goal

pub returns-in-Some : goal.returns-in-Some
returns-in-Some c =
    (c.if-bound-waited.true, own-waits c.args.partial.now.task c.args.partial.now.prefix c.args.waited c.in-Some.bound c.requires c.in-Some.ensures.found)
