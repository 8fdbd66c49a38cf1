use Rattle.std.proofs.Common.{length}
use Rattle.tree_certificate.proofs.SetWords.{AreNamed}
use Rattle.tree_certificate.proofs.line_readers.named_set.Given as goal

abbrev pub invariant-loop-rest : goal.invariant-loop-rest
invariant-loop-rest l = AreNamed l.names.positions.now l.words l.set l.rest

abbrev pub decreases-loop-rest : goal.decreases-loop-rest
decreases-loop-rest l = length l.rest
