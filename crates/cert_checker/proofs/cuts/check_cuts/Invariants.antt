use Rattle.std.proofs.Common.{◌≡◌, take}
use Rattle.cert_checker.specs.FirstReason.{CutsHold}
use Rattle.cert_checker.specs.Evidence.{claim_in}
use Rattle.cert_checker.specs.Steps.{paths_in}
use Rattle.cert_checker.proofs.cuts.check_cuts.Given as goal

abbrev pub invariant-loop-at : goal.invariant-loop-at
invariant-loop-at l = record {
  task : l.partial.task ≡ l.fn.partial.task;
  hold : CutsHold l.fn.partial.task (claim_in l.evidence) (take l.at (paths_in l.evidence));
}
