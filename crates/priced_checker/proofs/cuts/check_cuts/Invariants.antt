use Rattle.std.proofs.Common.{◌≡◌, take}
use Rattle.cert_checker.specs.Evidence.{claim_in}
use Rattle.priced_checker.specs.FirstReason.{PricedCutsHold}
use Rattle.priced_checker.proofs.cuts.check_cuts.Given as goal

abbrev pub invariant-loop-at : goal.invariant-loop-at
invariant-loop-at l = record {
  task : l.partial.task ≡ l.fn.partial.task;
  hold : PricedCutsHold l.fn.partial.task (claim_in l.evidence) (take l.at l.evidence.cuts.now);
}
