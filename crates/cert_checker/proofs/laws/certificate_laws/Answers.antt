use Rattle.cert_checker.proofs.GoodLemmas.{good-best, good-none}
use Rattle.cert_checker.proofs.ReasonLemmas.{reason-not_good}
use Rattle.cert_checker.proofs.Decided.{good-without_reason}
use Rattle.cert_checker.proofs.OneReason.{one-reason}
use Rattle.cert_checker.proofs.laws.certificate_laws.Goals as goal

pub returns : goal.returns
returns c = record {
  best = good-best;
  none = good-none;
  reason = λ t claim cuts expanded. (
    good-without_reason t claim cuts expanded,
    λ good reason first. reason-not_good t claim cuts expanded reason first good,
  );
  one_reason = one-reason;
}
