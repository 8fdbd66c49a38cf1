use Rattle.std.proofs.Common.{◌↔◌, length}
use Rattle.task_answers.specs.Kinds.{BeginsWithCuts}
use Rattle.plan_answers.proofs.any_certificate.begins_with_cuts.Given as goal

abbrev pub invariant-loop-line : goal.invariant-loop-line
invariant-loop-line l = BeginsWithCuts l.text ↔ BeginsWithCuts l.lines.rest.now

abbrev pub decreases-loop-line : goal.decreases-loop-line
decreases-loop-line l = length l.lines.rest.now
