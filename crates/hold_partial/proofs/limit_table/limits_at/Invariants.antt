use Rattle.std.proofs.Common.{◌≡◌}
use Rattle.std.specs.List.{filter, range_with_len}
use Rattle.hold_partial.specs.Limits.{limit_covers}
use Rattle.hold_partial.proofs.limit_table.limits_at.Given as goal

abbrev pub invariant-loop-place : goal.invariant-loop-place
invariant-loop-place l = l.limits.items ≡ filter (λ j. limit_covers l.hold j l.number) (range_with_len 0 l.place)
