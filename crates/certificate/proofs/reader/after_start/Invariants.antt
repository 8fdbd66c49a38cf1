use Rattle.std.proofs.Common.{◌≡◌, ◌++◌, ◌+◌, ℕ, List, length, All}
use Rattle.text_lines.specs.Lines.{text_of}
use Rattle.certificate.specs.Starts.{IsEarlier}
use Rattle.certificate.proofs.reader.after_start.Given as goal

abbrev pub invariant-loop-line : goal.invariant-loop-line
invariant-loop-line l = record {
  before : List (List ℕ);
  earlier : All (IsEarlier l.start) before;
  is : l.text ≡ text_of before ++ l.lines.rest.now;
  counted : l.lines.number ≡ length before + 1;
}

abbrev pub decreases-loop-line : goal.decreases-loop-line
decreases-loop-line l = length l.lines.rest.now
