use Rattle.std.proofs.Common.{length, ap, arith}
use Rattle.hold_limits.proofs.LawfulBounds.{lawful-bounds}
use Rattle.hold_limits.proofs.stowage.stowage_in.Goals as goal

pub stowage_of-requires-clause-loose : goal.stowage_of-requires-clause-loose
stowage_of-requires-clause-loose c =
    omega (arith, ap length c.loose.ensures.value, (lawful-bounds c.args.task.now c.loose.ensures.lawful).loose)
