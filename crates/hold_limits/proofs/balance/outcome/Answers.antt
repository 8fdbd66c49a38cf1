use Rattle.std.proofs.Common.{arith}
use Rattle.hold_limits.proofs.LawfulBounds.{lawful-bounds}
use Rattle.hold_limits.proofs.DistanceLemmas.{distance_to-bounded}
use Rattle.hold_limits.proofs.balance.outcome.Goals as goal

pub returns-clause-bounded : goal.returns-clause-bounded
returns-clause-bounded c =
    let t = c.args.task.now in
    let take_off = c.take_off_index_of-take_off in
    let bounds = lawful-bounds t take_off.ensures.lawful in
    omega (arith, c.distance_from_ideal.ensures, distance_to-bounded t.ideal_low t.ideal_high take_off.result.0 bounds.ideal_low bounds.ideal_high, take_off.ensures.bounded)
