use Rattle.std.proofs.Common.{length}
use Rattle.certificate.proofs.PathLemmas.{AreLeft}
use Rattle.certificate.proofs.line_readers.named_path.Given as goal

abbrev pub invariant-loop-rest : goal.invariant-loop-rest
invariant-loop-rest l = AreLeft l.names.positions.now l.words l.path.items l.rest

abbrev pub decreases-loop-rest : goal.decreases-loop-rest
decreases-loop-rest l = length l.rest
