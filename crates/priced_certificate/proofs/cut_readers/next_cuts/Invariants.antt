use Rattle.std.proofs.Common.{length}
use Rattle.priced_certificate.proofs.CutLines.{AreReadSoFar}
use Rattle.priced_certificate.proofs.cut_readers.next_cuts.Given as goal

abbrev pub invariant-loop-lines : goal.invariant-loop-lines
invariant-loop-lines l = AreReadSoFar l.names.positions.now l.initial.lines.rest.now l.lines.rest.now l.initial.lines.number l.lines.number l.cuts.items

abbrev pub decreases-loop-lines : goal.decreases-loop-lines
decreases-loop-lines l = length l.lines.rest.now
