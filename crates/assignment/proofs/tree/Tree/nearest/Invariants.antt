use Rattle.std.proofs.Common.{◌≡◌, ℕ, ◌+◌, ◌-◌, ◌<◌, ◌≤◌, false, length}
use Rattle.position_set.specs.Sets.{has}
use Rattle.assignment.specs.Trees.{IsAsked, IsNearestBelow, gap_at}
use Rattle.assignment.proofs.tree.Tree.nearest.Given as goal

abbrev pub invariant-loop-position : goal.invariant-loop-position
invariant-loop-position l = record {
  size : length l.self.gaps ≡ 64;
  members : l.self.members ≡ l.fn.self.members;
  from : l.self.from ≡ l.fn.self.from;
  reached : l.self.reached ≡ l.fn.self.reached;
  moved : l.self.moved ≡ l.fn.self.moved;
  asked : (q : ℕ) → q < l.position → has l.fn.self.reached q ≡ false
      → IsAsked l.standing.costs l.standing.items.items l.standing.places.items l.fn.self.members.items (length l.fn.self.members.items - 1 + 1) l.fn.self.moved q (gap_at l.self.gaps q);
  later : (q : ℕ) → l.position ≤ q → q < length l.standing.costs.influences.now → has l.fn.self.reached q ≡ false
      → IsAsked l.standing.costs l.standing.items.items l.standing.places.items l.fn.self.members.items (length l.fn.self.members.items - 1) l.fn.self.moved q (gap_at l.self.gaps q);
  nearest : IsNearestBelow l.self.gaps l.fn.self.reached l.position l.nearest;
}
