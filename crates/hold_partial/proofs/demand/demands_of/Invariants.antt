use Rattle.std.proofs.Common.{◌≡◌, ℕ, ◌<◌, length, slice_index_or, Some}
use Rattle.std.specs.Prelude.{slice_get}
use Rattle.hold_parts.specs.declared.parts.Item.{Item}
use Rattle.hold_limits.specs.BranchOrder.{ordered}
use Rattle.hold_partial.specs.declared.demand.Demand.{Demand}
use Rattle.hold_partial.specs.Tables.{IsDemand}
use Rattle.hold_partial.proofs.demand.demands_of.Given as goal

abbrev pub invariant-loop-rank : goal.invariant-loop-rank
invariant-loop-rank l = record {
  count : length l.demands.items ≡ l.rank;
  each : (k : ℕ) (d : Demand) → k < l.rank → (item : Item) → slice_get (ordered l.task.items) k ≡ Some item → IsDemand l.task l.ranks item (slice_index_or l.demands.items k d);
}
