use Rattle.hold_limits.specs.Enumeration.{exclude}
use Rattle.hold_partial.proofs.NumberLemmas.{stands-more}
use Rattle.hold_partial.proofs.position_table.excluding_positions.Goals as goal

pub loop-other-preserved : goal.loop-other-preserved
loop-other-preserved c =
    stands-more (λ q. exclude c.args.hold.now q c.args.number) c.loop-other.set c.with_if-set.result c.loop-other.other c.exclude_each_other.result c.loop-other.invariant c.with_if-set.ensures c.exclude_each_other.ensures.value
