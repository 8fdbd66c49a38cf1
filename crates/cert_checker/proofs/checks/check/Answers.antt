use Rattle.cert_checker.proofs.ReasonLemmas.{accepted-good}
use Rattle.cert_checker.proofs.checks.check.Goals as goal

pub returns : goal.returns
returns c = record {
  good = accepted-good c.args.task.now c.args.certificate.now c.first_reason.result c.first_reason.ensures.good c.first_reason.ensures.refused;
  refused = c.first_reason.ensures.refused;
}
