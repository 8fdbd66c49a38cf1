-- the spellings of the texts of an aircraft file, each as a test
use Rattle.std.specs.Prelude.{ℕ, ◌+◌, ◌*◌, ◌-◌, ◌^◌, ◌==◌, nat_le, Bool, ◌&&◌, if◌then◌else◌, List, [], ◌∷◌, length, take, drop, bytes_eq, ℤ, pos, neg_ℤ, unsigned_abs, Option, Some, None}
use Rattle.std.specs.List.{list_all}
use Rattle.std.specs.Str.Parse.{digits_value}
use Rattle.mass_units.specs.Spelling.{index_text}
use Rattle.base_words.specs.Letters.{is_capital, is_word}

-- a registration: 2 to 10 capitals or digits
abbrev pub is_registration : List ℕ → Bool
is_registration text = is_word 2 10 text

-- a version: 1 to 12 capitals or digits
abbrev pub is_version : List ℕ → Bool
is_version text = is_word 1 12 text

-- a position's name: 1 to 3 capitals or digits
abbrev pub is_name : List ℕ → Bool
is_name text = is_word 1 3 text

-- a kind of container: three capitals
abbrev pub is_kind : List ℕ → Bool
is_kind text = (length text == 3) && list_all is_capital text

-- the text where it passes the test
abbrev pub spelled : (List ℕ → Bool) → List ℕ → Option (List ℕ)
spelled test text = if test text then Some text else None

-- the ticks of a text with no sign: its digits before the point, and its five decimals after it
abbrev pub units_in : List ℕ → ℕ
units_in text = digits_value 10 (take (length text - 6) text) * 100000 + digits_value 10 (drop 1 (drop (length text - 6) text))

-- the ticks of a text: the negated ticks of what follows its minus, or those of the whole text
unfoldable pub ticks_in : List ℕ → ℤ
ticks_in [] = pos 0
ticks_in (c ∷ text) = if c == 45 then neg_ℤ (pos (units_in text)) else pos (units_in (c ∷ text))

-- the index that the text spells: its ticks, where they have this very text and lie within 1,000,000,000 of zero
unfoldable pub index_spelled : List ℕ → Option ℤ
index_spelled text =
    if bytes_eq (index_text (ticks_in text)) text && nat_le (unsigned_abs (ticks_in text)) (10 ^ 9) then Some (ticks_in text) else None
