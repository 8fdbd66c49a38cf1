use Rattle.std.proofs.Common.{◌≡◌, ◌++◌, map, take}
use Rattle.std.specs.List.{enumerate_from}
use Rattle.text_lines.specs.Lines.{text_of}
use Rattle.aircraft_text.specs.AircraftText.{position_line}
use Rattle.aircraft_text.proofs.hold_lines.push_positions.Given as goal

abbrev pub invariant-loop-place : goal.invariant-loop-place
invariant-loop-place l = l.out ≡ l.initial.out ++ text_of (map position_line (enumerate_from 1 (take l.place l.positions)))
