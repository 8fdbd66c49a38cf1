use Rattle.hold_reach.specs.Extents.{may_stand, amount_of, IsSpanOfList}
use Rattle.std.proofs.Common.{map}
use Rattle.std.specs.List.{filter, range_with_len}
use Rattle.plan_tests.proofs.plain_reach.span_of_amounts.Given as goal

abbrev pub invariant-loop-number : goal.invariant-loop-number
invariant-loop-number l =
    IsSpanOfList (map (λ q. amount_of l.extent l.task.hold (l.item, q)) (filter (may_stand l.extent l.task l.prefix l.item) (range_with_len 0 l.number))) l.span
