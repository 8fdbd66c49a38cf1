use Rattle.std.proofs.Common.{take}
use Rattle.std.specs.Prelude.{All}
use Rattle.choice_prices.specs.Listing.{IsClique}
use Rattle.tree_checker.proofs.checks.check_cliques.Given as goal

abbrev pub invariant-loop-at : goal.invariant-loop-at
invariant-loop-at l = All (IsClique l.task) (take l.at l.cliques)
