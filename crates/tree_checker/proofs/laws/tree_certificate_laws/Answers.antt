use Rattle.tree_checker.proofs.Readings.{one-outcome}
use Rattle.tree_checker.proofs.GoodLaws.{good-shows, good-best, good-none}
use Rattle.tree_checker.proofs.OneReason.{rejected-not_good, one-reason}
use Rattle.tree_checker.proofs.SomeReason.{some-reason}
use Rattle.tree_checker.proofs.laws.tree_certificate_laws.Goals as goal

pub returns : goal.returns
returns c = record {
  shown = good-shows;
  best = good-best;
  none = good-none;
  one_outcome = one-outcome;
  not_good = rejected-not_good;
  one_reason = one-reason;
  some_reason = some-reason;
}
