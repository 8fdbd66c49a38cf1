-- texts that consist of lines, and lines that consist of words
use Rattle.std.specs.Prelude.{◌≡◌, ℕ, List, [], ◌∷◌, ◌++◌}
use Rattle.std.specs.List.{join_with_byte}
use Rattle.text_lines.specs.Cuts.{Avoids}
use Rattle.text_lines.specs.declared.fault.LineFault.{LineFault}
use Rattle.text_lines.specs.declared.fault.LineFault.TheVariants.{Line, NoEnd}

-- the words of a line are separated by one space
abbrev pub line_of : List (List ℕ) → List ℕ
line_of words = join_with_byte 32 words

-- lines as a text: an LF after each
abbrev pub text_of : List (List ℕ) → List ℕ
text_of [] = []
text_of (line ∷ lines) = line ++ 10 ∷ text_of lines

-- the next line is wrong, or there is none
pub data IsStopped (rest : List ℕ) (number : ℕ) (IsRight : List ℕ → Type 0) : LineFault → Type 0 where
  at_line : (line after : List ℕ) → rest ≡ line ++ 10 ∷ after → Avoids 10 line → (IsRight line → ⊥)
      → IsStopped rest number IsRight (Line number)
  at_end : Avoids 10 rest → IsStopped rest number IsRight NoEnd
