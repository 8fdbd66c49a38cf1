-- capitals, digits, and texts of them
use Rattle.std.specs.Prelude.{ℕ, ◌≤◌, ◌⊎◌, nat_le, Bool, ◌&&◌, ◌||◌, List, length}
use Rattle.std.specs.List.{list_all}

abbrev pub IsCapital : ℕ → Type 0
IsCapital c = (65 ≤ c) × (c ≤ 90)

abbrev pub IsDigit : ℕ → Type 0
IsDigit c = (48 ≤ c) × (c ≤ 57)

abbrev pub IsCapitalOrDigit : ℕ → Type 0
IsCapitalOrDigit c = IsCapital c ⊎ IsDigit c

-- the same as tests
abbrev pub is_capital : ℕ → Bool
is_capital c = nat_le 65 c && nat_le c 90

abbrev pub is_digit : ℕ → Bool
is_digit c = nat_le 48 c && nat_le c 57

abbrev pub is_capital_or_digit : ℕ → Bool
is_capital_or_digit c = is_capital c || is_digit c

-- the text has a number of bytes within these bounds
abbrev pub is_long : ℕ → ℕ → List ℕ → Bool
is_long least most text = nat_le least (length text) && nat_le (length text) most

-- a number of capitals or digits within these bounds
abbrev pub is_word : ℕ → ℕ → List ℕ → Bool
is_word least most text = is_long least most text && list_all is_capital_or_digit text
