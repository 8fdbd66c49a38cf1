-- What a telex may contain, and why a text is refused.
use Rattle.std.specs.Prelude.{◌≡◌, ℕ, ◌+◌, ◌-◌, ◌==◌, ◌||◌, ◌&&◌, Bool, not, nat_le, nat_lt, List, length, Option, Some, None, option_map, slice_get}
use Rattle.std.specs.List.{position, slice_split}
use Rattle.telex.specs.declared.reading.TelexFault.{TelexFault}
use Rattle.telex.specs.declared.reading.TelexFault.TheVariants.{BadByte, LineTooLong, NoEnd}

-- the byte that ends a line
abbrev pub line_feed : ℕ
line_feed = 10

-- the byte before a word that is not the first of its line
abbrev pub space : ℕ
space = 32

-- a line has at most so many bytes, without its line feed
abbrev pub longest_line : ℕ
longest_line = 200

-- the byte is neither a line feed nor printable ASCII, which goes from the space to the tilde
abbrev pub is_foreign : ℕ → Bool
is_foreign b = not (b == line_feed || (nat_le 32 b && nat_le b 126))

-- the byte ends a line
abbrev pub is_line_feed : ℕ → Bool
is_line_feed b = b == line_feed

-- what is before, between and after the line feeds of a text
abbrev pub pieces : List ℕ → List (List ℕ)
pieces text = slice_split is_line_feed text

-- the line has more bytes than a line may have
abbrev pub is_too_long : List ℕ → Bool
is_too_long line = nat_lt longest_line (length line)

-- the offset of the first byte that a telex may not contain
abbrev pub bad_byte : List ℕ → Option ℕ
bad_byte text = position is_foreign text

-- the number of the first line that is too long, counted from 1
abbrev pub long_line : List ℕ → Option ℕ
long_line text = option_map (λ k. k + 1) (position is_too_long (pieces text))

-- the last byte is a line feed; an empty text has no last byte
abbrev pub IsEnded : List ℕ → Type 0
IsEnded text = slice_get text (length text - 1) ≡ Some line_feed

-- the text is a message
pub record IsTelex (text : List ℕ) : Type 0 where
  pub plain : bad_byte text ≡ None
  pub short : long_line text ≡ None
  pub ended : IsEnded text

-- the text is not a message, and this is the first reason why, with its offset or line
abbrev pub IsRefusedWith : List ℕ → TelexFault → Type 0
IsRefusedWith text (BadByte at) = bad_byte text ≡ Some at
IsRefusedWith text (LineTooLong line) = (bad_byte text ≡ None) × (long_line text ≡ Some line)
IsRefusedWith text NoEnd = (bad_byte text ≡ None) × (long_line text ≡ None) × ¬ (IsEnded text)
