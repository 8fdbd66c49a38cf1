-- the spellings of the small texts of a flight, each as a test
use Rattle.std.specs.Prelude.{ℕ, ◌-◌, ◌==◌, nat_le, Bool, ◌&&◌, if◌then◌else◌, List, length, take, drop, codes, bytes_eq, slice_get, false}
use Rattle.std.specs.List.{list_all}
use Rattle.std.specs.Option.{option_map_or}
use Rattle.std.specs.Str.Parse.{digits_value}
use Rattle.base_words.specs.Letters.{is_capital, is_digit, is_capital_or_digit, is_long}

-- the text without a capital at its end
abbrev pub without_suffix : List ℕ → List ℕ
without_suffix text =
    if option_map_or is_capital (slice_get text (length text - 1)) false then take (length text - 1) text else text

-- the number of a flight: 1 to 4 digits, and at most one capital behind them
abbrev pub is_flight_number : List ℕ → Bool
is_flight_number text = is_long 1 4 (without_suffix text) && list_all is_digit (without_suffix text)

-- a flight: an airline's two capitals or digits, and a number
abbrev pub is_flight_name : List ℕ → Bool
is_flight_name text =
    nat_le 2 (length text) && (list_all is_capital_or_digit (take 2 text) && is_flight_number (drop 2 text))

-- a day of a month: two digits, 01 to 31
abbrev pub is_day : List ℕ → Bool
is_day text =
    (length text == 2) && (list_all is_digit text && (nat_le 1 (digits_value 10 text) && nat_le (digits_value 10 text) 31))

-- a station: three capitals
abbrev pub is_station : List ℕ → Bool
is_station text = (length text == 3) && list_all is_capital text

-- a key: a flight, a hyphen, and a day
abbrev pub is_flight_key : List ℕ → Bool
is_flight_key text =
    nat_le 3 (length text) && (is_flight_name (take (length text - 3) text)
    && (bytes_eq (take 1 (drop (length text - 3) text)) (codes "-") && is_day (drop 1 (drop (length text - 3) text))))
