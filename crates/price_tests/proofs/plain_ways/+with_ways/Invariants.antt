use Rattle.std.proofs.Common.{◌-◌, length}
use Rattle.price_tests.proofs.plain_ways.«+with_ways».Given as goal

abbrev pub decreases-with_ways : goal.decreases-with_ways
decreases-with_ways l = length l.partial.now.task.items - l.rank

abbrev pub invariant-loop-number : goal.invariant-loop-number
invariant-loop-number l = Unit {0}
