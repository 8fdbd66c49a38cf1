use Rattle.std.proofs.Common.{◌≡◌, ◌++◌, take, map}
use Rattle.text_lines.specs.Lines.{text_of}
use Rattle.loadsheet_text.specs.SheetText.{change_line}
use Rattle.loadsheet_text.proofs.sheet.push_changes.Given as goal

abbrev pub invariant-loop-change : goal.invariant-loop-change
invariant-loop-change l = l.out ≡ l.initial.out ++ text_of (map change_line (take l.change-index l.changes))
