use Rattle.assignment_prices.proofs.WayLemmas.{tight-lies, allows-path, allows-shorter, complete-tight}
use Rattle.assignment_prices.proofs.PriceLemmas.{allowed-priced}
use Rattle.assignment_prices.proofs.LeastWay.{tight-exists}
use Rattle.assignment_prices.proofs.laws.tight_reach_laws.Goals as goal

pub returns : goal.returns
returns c = record {
  exists = tight-exists;
  tighter = tight-lies;
  holds = allows-path;
  priced = allowed-priced;
  narrows = allows-shorter;
  complete = complete-tight;
}
