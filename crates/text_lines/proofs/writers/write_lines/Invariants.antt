use Rattle.std.proofs.Common.{◌≡◌, ◌++◌, take, map, All}
use Rattle.text_lines.specs.Lines.{text_of}
use Rattle.text_lines.proofs.writers.write_lines.Given as goal

abbrev pub invariant-loop-entry : goal.invariant-loop-entry
invariant-loop-entry g l =
    (l.out ≡ l.initial.out ++ text_of (map (g.W.EntryWriter.text l.writer) (take l.entry-index l.entries)))
    × All (g.W.EntryWriter.spelled l.writer) (take l.entry-index l.entries)
