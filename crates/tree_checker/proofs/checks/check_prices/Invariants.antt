use Rattle.std.proofs.Common.{map, take}
use Rattle.std.specs.Prelude.{All}
use Rattle.tree_certificate.specs.Listed.{listed_prices}
use Rattle.choice_prices.specs.Listing.{ArePriced}
use Rattle.tree_checker.proofs.checks.check_prices.Given as goal

abbrev pub invariant-loop-at : goal.invariant-loop-at
invariant-loop-at l = All (ArePriced l.task.hold l.cliques) (take l.at (map listed_prices l.prices))
