use Rattle.std.proofs.Common.{nat_le, refl}
use Rattle.hold_partial.proofs.NumberLemmas.{stands-more}
use Rattle.hold_partial.proofs.position_table.closed_positions.Goals as goal

pub loop-other-preserved : goal.loop-other-preserved
loop-other-preserved c =
    stands-more (λ q. nat_le q c.args.number) c.loop-other.set c.with_if-set.result c.loop-other.other _ c.loop-other.invariant c.with_if-set.ensures refl
