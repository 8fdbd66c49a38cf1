use Rattle.std.proofs.Common.{◌≤◌, length}
use Rattle.text_lines.proofs.PartSteps.{AreRead}
use Rattle.certificate.specs.Evidence.{paths_of}
use Rattle.certificate.specs.CertificateText.{cut_line, IsSpelledPath}
use Rattle.certificate.proofs.line_readers.next_cuts.Given as goal

abbrev pub invariant-loop-lines : goal.invariant-loop-lines
invariant-loop-lines l = record {
  few : length l.cuts.items ≤ 3200000;
  read : AreRead (cut_line l.names.positions.now) (IsSpelledPath l.names.positions.now) l.initial.lines l.lines (paths_of l.cuts.items);
}

abbrev pub decreases-loop-lines : goal.decreases-loop-lines
decreases-loop-lines l = length l.lines.rest.now
