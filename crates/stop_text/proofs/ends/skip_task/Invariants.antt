use Rattle.std.proofs.Common.{◌≡◌, ◌++◌, ◌+◌, length, List, ℕ}
use Rattle.text_lines.specs.Lines.{text_of}
use Rattle.stop_text.specs.Reading.{AreInside}
use Rattle.stop_text.proofs.ends.skip_task.Given as goal

abbrev pub invariant-loop-line : goal.invariant-loop-line
invariant-loop-line l = record {
  lines : List (List ℕ);
  inside : AreInside lines;
  read : l.initial.lines.rest.now ≡ text_of lines ++ l.lines.rest.now;
  counted : l.lines.number ≡ l.initial.lines.number + length lines;
}

abbrev pub decreases-loop-line : goal.decreases-loop-line
decreases-loop-line l = length l.lines.rest.now
