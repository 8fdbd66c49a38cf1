-- the words of a line
use Rattle.std.specs.Prelude.{ℕ, ℤ, List, codes, Option, Some, None}
use Rattle.mass_units.specs.Spelling.{number_text, signed_text, index_text, with_sign, hundredths_text}
use Rattle.aircraft_text.specs.declared.words.Word.{Word}
use Rattle.aircraft_text.specs.declared.words.Word.TheVariants.{Text, Number, Signed, Mass, Index, Percent}

-- hundredths of a percent with two decimals, and `-` for none
abbrev pub percent_text : Option ℤ → List ℕ
percent_text (Some hundredths) = with_sign hundredths_text hundredths
percent_text None = codes "-"

-- the text of a word
abbrev pub word_text : Word → List ℕ
word_text (Text text) = text.now
word_text (Number n) = number_text n
word_text (Signed z) = signed_text z
word_text (Mass mass) = number_text mass.0
word_text (Index index) = index_text index.0
word_text (Percent hundredths) = percent_text hundredths
