use Rattle.std.proofs.Common.{length}
use Rattle.flight_row.specs.RowText.{change_line}
use Rattle.flight_row.specs.Spelled.{IsSpelledChange}
use Rattle.text_lines.proofs.PartSteps.{AreRead}
use Rattle.flight_row.proofs.PartSteps.{AreMade}
use Rattle.flight_row.proofs.changes.read_made.Given as goal

abbrev pub invariant-loop-alloc : goal.invariant-loop-alloc
invariant-loop-alloc l = record {
  made : AreMade l.base l.figures l.changes;
  read : AreRead change_line IsSpelledChange l.initial.lines l.lines l.changes;
}

abbrev pub decreases-loop-alloc : goal.decreases-loop-alloc
decreases-loop-alloc l = length l.lines.rest.now
