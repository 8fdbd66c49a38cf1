-- The prefix grows, and a sound prefix has at most as many numbers as there are containers. At each number the walk has
-- passed the prefix itself and all prefixes that go on with a lower number.
use Rattle.std.proofs.Common.{◌≡◌, ◌-◌, length}
use Rattle.cert_checker.specs.Evidence.{claim_in, cuts_in}
use Rattle.cert_checker.proofs.WalkLemmas.{Walked}
use Rattle.cert_checker.proofs.walk.+pass.Given as goal

abbrev pub decreases-pass : goal.decreases-pass
decreases-pass g l = length l.partial.now.task.items - length l.partial.now.prefix

abbrev pub invariant-loop-number : goal.invariant-loop-number
invariant-loop-number g l = record {
  same : l.partial ≡ l.fn.partial;
  walked : Walked l.fn.partial.task (claim_in l.evidence) (cuts_in g.C.Cut.prefix_of l.evidence) l.fn.partial.prefix l.number l.fn.progress l.progress;
}
