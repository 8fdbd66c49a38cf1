use Rattle.std.proofs.Common.{◌≡◌, length, map, take}
use Rattle.std.specs.List.{filter, range_with_len}
use Rattle.hold_parts.specs.declared.parts.Item.{Item}
use Rattle.hold_limits.specs.BranchOrder.{ordered}
use Rattle.hold_limits.specs.Enumeration.{is_accepted}
use Rattle.position_set.specs.Sets.{members}
use Rattle.hold_choices.proofs.choices.Choices.full.Given as goal

abbrev pub invariant-loop-rank : goal.invariant-loop-rank
invariant-loop-rank l = record {
  count : length l.sets.items ≡ l.rank;
  items : map members l.sets.items ≡ map (λ (item : Item). filter (λ q. is_accepted l.task.hold (item, q)) (range_with_len 0 (length l.task.hold.positions))) (take l.rank (ordered l.task.items));
}
