use Rattle.std.proofs.Common.{◌≡◌, ◌<◌, length}
use Rattle.assignment.specs.declared.costs.CostTable.{CostTable}
use Rattle.assignment.specs.Tables.{number_at, Lacks}
use Rattle.assignment.specs.Standings.{IsStanding, IsTight}
use Rattle.assignment.specs.Trees.{AreBranches, IsTurning}
use Rattle.assignment.proofs.standing.Standing.augment.Given as goal

abbrev pub invariant-loop-place : goal.invariant-loop-place
invariant-loop-place l = record {
  within : l.place < length l.members;
  count : length l.self.stands.items ≡ length l.fn.self.stands.items;
  items : l.self.items.items ≡ l.fn.self.items.items;
  costs : l.self.costs ≡ l.fn.self.costs;
  places : l.self.places.items ≡ l.fn.self.places.items;
  turning : (costs : CostTable) → IsStanding costs l.fn.self.items.items l.fn.self.places.items l.fn.self.stands.items
      → AreBranches costs l.fn.self.items.items l.fn.self.places.items l.fn.self.stands.items l.members l.from
      → IsTight costs l.fn.self.items.items l.fn.self.places.items (number_at l.members l.fn.member) l.fn.position
      → Lacks l.fn.self.stands.items l.fn.position
      → IsTurning costs l.fn.self.items.items l.fn.self.places.items l.fn.self.stands.items l.members l.self.stands.items l.hole l.place;
}

abbrev pub decreases-loop-place : goal.decreases-loop-place
decreases-loop-place l = l.place
