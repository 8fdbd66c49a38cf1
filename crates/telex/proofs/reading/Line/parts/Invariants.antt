use Rattle.std.proofs.Common.{◌≡◌, ◌++◌, map}
use Rattle.telex.specs.Items.{placed_line, placed_part}
use Rattle.telex.specs.Parts.{parts_of}
use Rattle.telex.proofs.reading.Line.parts.Given as goal

abbrev pub invariant-loop-part : goal.invariant-loop-part
invariant-loop-part l = map placed_part l.parts.items ++ l.part-iterator ≡ parts_of (placed_line l.self)
