-- How numbers, signed numbers and indices are spelled. Each value has one text.
use Rattle.std.specs.Prelude.{ℕ, zero, suc, ◌+◌, ◌/◌, ◌%◌, ◌^◌, ◌<◌, ◌≤◌, List, [], ◌∷◌, ◌++◌, map, ℤ, pos, negsuc, neg_ℤ, unsigned_abs, codes}
use Rattle.std.specs.Int.Digits.{digits_of}

-- the decimal digits of a number, the highest first, with no leading zero; 0 is the digit 0 alone
unfoldable pub number_text : ℕ → List ℕ
number_text zero = codes "0"
number_text (suc n) = map (λ d. 48 + d) (digits_of 10 (suc n))

-- a number below 100000 by five digits, leading zeros among them
abbrev pub five_digits : ℕ → List ℕ
five_digits n =
    (48 + n / 10000) ∷ (48 + n / 1000 % 10) ∷ (48 + n / 100 % 10) ∷ (48 + n / 10 % 10) ∷ (48 + n % 10) ∷ []

-- a number of ticks in index units: the whole units, a point, five decimals
unfoldable pub units_text : ℕ → List ℕ
units_text n = number_text (n / 100000) ++ codes "." ++ five_digits (n % 100000)

-- a minus below zero, and nothing elsewhere
abbrev pub sign_text : ℤ → List ℕ
sign_text (pos n) = []
sign_text (negsuc n) = codes "-"

-- the sign of a number, and the text of its absolute value
abbrev pub with_sign : (ℕ → List ℕ) → ℤ → List ℕ
with_sign spell z = sign_text z ++ spell (unsigned_abs z)

-- the text of a signed number
unfoldable pub signed_text : ℤ → List ℕ
signed_text z = with_sign number_text z

-- the text of an index, which is a number of ticks
unfoldable pub index_text : ℤ → List ℕ
index_text z = with_sign units_text z

-- a number below 100 by two digits
abbrev pub two_digits : ℕ → List ℕ
two_digits n = (48 + n / 10) ∷ (48 + n % 10) ∷ []

-- a number of hundredths of an index unit: the whole units, a point, two decimals
unfoldable pub hundredths_text : ℕ → List ℕ
hundredths_text n = number_text (n / 100) ++ codes "." ++ two_digits (n % 100)

-- a number of ticks in hundredths of an index unit, a half away from zero
abbrev pub hundredths_of : ℤ → ℤ
hundredths_of (pos n) = pos ((n + 500) / 1000)
hundredths_of (negsuc n) = neg_ℤ (pos ((suc n + 500) / 1000))

-- the text of an index with two decimals
unfoldable pub short_index_text : ℤ → List ℕ
short_index_text z = with_sign hundredths_text (hundredths_of z)

-- a number in a text has at most nine digits
abbrev pub IsNumber : ℕ → Type 0
IsNumber n = n < 10 ^ 9

-- so has a signed number, beside its sign
abbrev pub IsSignedNumber : ℤ → Type 0
IsSignedNumber z = unsigned_abs z < 10 ^ 9

-- an index lies within 1,000,000,000 ticks of zero
abbrev pub IsIndex : ℤ → Type 0
IsIndex z = unsigned_abs z ≤ 10 ^ 9
