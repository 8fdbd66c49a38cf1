use Rattle.std.proofs.Common.{◌≡◌, ◌++◌, ◌∷◌, map, take}
use Rattle.text_lines.specs.Lines.{line_of}
use Rattle.aircraft_text.specs.Words.{word_text}
use Rattle.aircraft_text.proofs.words.push_words.Given as goal

abbrev pub invariant-loop-word : goal.invariant-loop-word
invariant-loop-word l = l.out ≡ l.fn.out ++ line_of (l.keyword ∷ map word_text (take l.word-index l.words))
