use Rattle.tree_certificate.specs.Listed.{listed_trees}
use Rattle.tree_checker.proofs.Judging.{accepted-from}
use Rattle.tree_checker.proofs.checks.check_trees.Goals as goal

pub returns-clause-accepted : goal.returns-clause-accepted
returns-clause-accepted c = accepted-from c.args.task.now (listed_trees c.args.certificate.now) c.first_reason.result c.first_reason.ensures.refused
