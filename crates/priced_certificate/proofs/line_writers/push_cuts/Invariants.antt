use Rattle.std.proofs.Common.{take}
use Rattle.priced_certificate.proofs.WriterLemmas.{AreWritten}
use Rattle.priced_certificate.proofs.line_writers.push_cuts.Given as goal

abbrev pub invariant-loop-cut : goal.invariant-loop-cut
invariant-loop-cut l = AreWritten l.hold.positions l.initial.out l.out (take l.cut-index l.cuts)
