use Rattle.priced_checker.proofs.ReasonLemmas.{accepted-good}
use Rattle.priced_checker.proofs.checks.check_priced.Goals as goal

pub returns : goal.returns
returns c = record {
  good = accepted-good c.args.task.now c.args.c.now c.first_reason.result c.first_reason.ensures.good c.first_reason.ensures.refused;
  refused = c.first_reason.ensures.refused;
}
