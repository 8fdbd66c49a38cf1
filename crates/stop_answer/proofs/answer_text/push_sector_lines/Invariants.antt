use Rattle.std.proofs.Common.{◌≡◌, ◌+◌, ◌++◌, drop}
use Rattle.text_lines.specs.Lines.{text_of}
use Rattle.stop_answer.specs.AnswerText.{sector_lines}
use Rattle.stop_answer.proofs.answer_text.push_sector_lines.Given as goal

-- what was written, and the lines of the sectors that are left
abbrev pub invariant-loop-place : goal.invariant-loop-place
invariant-loop-place l =
    l.out ++ text_of (sector_lines l.last l.path (l.place + 1) (drop l.place l.sectors)) ≡ l.fn.out ++ text_of (sector_lines l.last l.path 2 (drop 1 l.sectors))
