use Rattle.std.proofs.Common.{◌≡◌, ◌+◌, length}
use Rattle.assignment.specs.Trees.{IsTree, AreGaps}
use Rattle.assignment.proofs.hungarian.enter.Given as goal

abbrev pub invariant-loop : goal.invariant-loop
invariant-loop l = record {
  tree : IsTree l.standing l.tree;
  gaps : AreGaps l.standing l.tree l.counter;
  count : length l.tree.members.items ≡ l.counter + 1;
  costs : l.standing.costs ≡ l.fn.standing.costs;
  stands : l.standing.stands.items ≡ l.fn.standing.stands.items;
}
