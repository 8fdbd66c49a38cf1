use Rattle.std.proofs.Common.{◌≡◌, ◌<◌, ◌&&◌, ℕ, false, nat_le, get_or}
use Rattle.hold_parts.specs.Twins.{are_twins}
use Rattle.hold_limits.specs.Placement.{Placed, placed}
use Rattle.plan_tests.proofs.plain_reach.falls_at.Given as goal

abbrev pub invariant-loop-rank : goal.invariant-loop-rank
invariant-loop-rank l =
    (k : ℕ) → k < l.rank → (d : Placed) → (are_twins (get_or (placed l.task l.prefix) k d).0 l.item && nat_le l.number (get_or (placed l.task l.prefix) k d).1) ≡ false
