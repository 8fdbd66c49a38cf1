use Rattle.std.proofs.Common.{◌<◌, length}
use Rattle.assignment_draft.specs.Drafts.{AreMoved, AreSeated}
use Rattle.assignment_draft.specs.Trees.{IsTree}
use Rattle.assignment_draft.proofs.search.enter.Given as goal

abbrev pub invariant-loop : goal.invariant-loop
invariant-loop l = record {
  moved : AreMoved l.fn.prices l.prices;
  tree : IsTree l.prices l.tree;
  number : l.number < length l.prices.candidates.items;
  seated : AreSeated (length l.fn.prices.candidates.items) l.seats;
}
