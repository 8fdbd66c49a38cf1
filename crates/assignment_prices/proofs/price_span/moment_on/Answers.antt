use Rattle.std.proofs.Common.{◌≤◌, w64, unsigned_abs, arith}
use Rattle.std.proofs.lemmas.Int.{ints, to_z-of_z}
use Rattle.hold_reach.proofs.ReachLemmas.{amount-bound}
use Rattle.hold_reach.specs.declared.extent.Extent.TheVariants.{Reach}
use Rattle.hold_reach.proofs.LoadLemmas.{mass-at}
use Rattle.assignment_prices.proofs.price_span.moment_on.Goals as goal

pub returns-clause-bounded : goal.returns-clause-bounded
returns-clause-bounded c =
    let t = c.args.task.now in
    let item = c.at_rank.result.now in
    let light = mass-at t c.hold.ensures.lawful c.args.rank item c.requires.known c.at_rank.ensures.value in
    let bound = amount-bound Reach t c.hold.ensures.lawful item c.args.number light in
    let near : unsigned_abs c.moment_at.result ≤ 2000000000 = rw (c.moment_at.ensures, c.hold.ensures.value) bound in
    rw (to_z-of_z w64 c.moment_at.result (omega (arith, ints, near))) near
