use Rattle.std.proofs.Common.{◌≡◌, ◌++◌, ℕ, map, take}
use Rattle.std.specs.List.{enumerate_from}
use Rattle.std.specs.Prelude.{All}
use Rattle.hold_parts.specs.declared.parts.Position.{Position}
use Rattle.text_lines.specs.Lines.{text_of}
use Rattle.ldm_cpm.specs.Messages.{IsSpelledPlacing}
use Rattle.transit_messages.specs.Entries.{placing_aboard}
use Rattle.transit_messages.proofs.Lines.{line_for}
use Rattle.transit_messages.proofs.onward.Aboard.push_entries.Given as goal

abbrev pub invariant-loop-number : goal.invariant-loop-number
invariant-loop-number l =
    (l.out ≡ l.initial.out ++ text_of (map (line_for (placing_aboard l.self)) (take l.number (enumerate_from 0 l.positions))))
    × All (λ (at : ℕ × Position). IsSpelledPlacing (placing_aboard l.self at)) (take l.number (enumerate_from 0 l.positions))
