use Rattle.std.proofs.Common.{◌≤◌, length}
use Rattle.text_lines.proofs.PartSteps.{AreRead}
use Rattle.text_lines.proofs.parts.read_up_to.Given as goal

abbrev pub invariant-loop-alloc : goal.invariant-loop-alloc
invariant-loop-alloc g l = record {
  few : length l.entries.items ≤ l.most;
  read : AreRead (g.R.LineReader.text l.reader) (g.R.LineReader.spelled l.reader) l.initial.lines l.lines l.entries.items;
}

abbrev pub decreases-loop-alloc : goal.decreases-loop-alloc
decreases-loop-alloc g l = length l.lines.rest.now
