-- The items of the iterators as values.
use Rattle.telex.specs.declared.reading.Line.{Line}
use Rattle.telex.specs.declared.reading.Part.{Part}
use Rattle.telex.specs.Lines.{PlacedLine}
use Rattle.telex.specs.Parts.{PlacedPart}

-- the contents of a `Line`
abbrev pub placed_line : Line → PlacedLine
placed_line line = record { text = line.text.now; at = line.at }

-- the contents of a `Part`
abbrev pub placed_part : Part → PlacedPart
placed_part part = record { before = part.before; text = part.text.now; at = part.at }
