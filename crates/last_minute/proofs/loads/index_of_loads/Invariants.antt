use Rattle.std.proofs.Common.{◌≡◌, ◌*◌, ◌≤◌, take, unsigned_abs}
use Rattle.base_words.specs.Lists.{int_sum_by}
use Rattle.hold_limits.specs.Placement.{loose_moment}
use Rattle.last_minute.proofs.loads.index_of_loads.Given as goal

abbrev pub invariant-loop-load : goal.invariant-loop-load
invariant-loop-load l =
    (l.index ≡ int_sum_by (loose_moment l.hold) (take l.load-index l.loads)) × (unsigned_abs l.index ≤ 2791728742400000 * l.load-index)
