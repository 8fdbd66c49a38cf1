use Rattle.std.proofs.Common.{◌≡◌, ◌++◌, ◌+◌, map, length, All, List}
use Rattle.text_lines.specs.Lines.{text_of}
use Rattle.text_lines.proofs.sections.read_section.Given as goal

abbrev pub invariant-loop-line : goal.invariant-loop-line
invariant-loop-line g l = record {
  said : List g.row.R-Entry.Denot;
  kept : l.entries.items ≡ map (g.R.LineReader.keep l.reader) said;
  right : All (g.R.LineReader.spelled l.reader) said;
  read : l.initial.lines.rest.now ≡ text_of (map (g.R.LineReader.text l.reader) said) ++ l.lines.rest.now;
  counted : l.lines.number ≡ l.initial.lines.number + length said;
}

abbrev pub decreases-loop-line : goal.decreases-loop-line
decreases-loop-line g l = length l.lines.rest.now
