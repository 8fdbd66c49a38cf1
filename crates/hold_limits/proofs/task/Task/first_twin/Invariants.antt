use Rattle.std.proofs.Common.{◌≡◌, ◌<◌, ℕ, false, get_or}
use Rattle.hold_parts.specs.declared.parts.Item.{Item}
use Rattle.hold_parts.specs.Twins.{are_twins}
use Rattle.hold_limits.specs.BranchOrder.{ordered}
use Rattle.hold_limits.proofs.task.Task.first_twin.Given as goal

abbrev pub invariant-loop-rank : goal.invariant-loop-rank
invariant-loop-rank l = (k : ℕ) → k < l.rank → (d : Item) → are_twins (get_or (ordered l.self.items) k d) l.item ≡ false
