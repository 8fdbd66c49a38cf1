use Rattle.std.proofs.Common.{◌≡◌, ◌++◌, map, take, zip}
use Rattle.text_lines.specs.Lines.{text_of}
use Rattle.stop_text.proofs.WrittenFile.{said_line}
use Rattle.stop_text.proofs.line_writers.push_leaves.Given as goal

abbrev pub invariant-loop-place : goal.invariant-loop-place
invariant-loop-place l = l.out ≡ l.fn.out ++ text_of (map said_line (take l.place (zip l.items l.leaves)))
