use Rattle.priced_checker.proofs.GoodLemmas.{good-best, good-none}
use Rattle.priced_checker.proofs.laws.priced_certificate_laws.Goals as goal

pub returns : goal.returns
returns c = record {
  best = good-best;
  none = good-none;
}
