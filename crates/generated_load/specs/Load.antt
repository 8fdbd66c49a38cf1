-- loads that are made from a number
use Rattle.std.specs.Prelude.{ℕ, ◌+◌, ◌-◌, ◌*◌, ◌%◌, pos, negsuc, false, nat_lt, if◌then◌else◌, List, [], ◌∷◌, ◌++◌, map, codes}
use Rattle.std.specs.List.{range_with_len}
use Rattle.mass_units.specs.Spelling.{two_digits}
use Rattle.hold_parts.specs.declared.parts.Position.{Position}
use Rattle.hold_parts.specs.declared.parts.Item.{Item}
use Rattle.hold_limits.specs.Layout.{Layout, layout_of}
use Rattle.hold_limits.specs.Problem.{Problem}

-- the names F01 to F28, and then A01 to A36
abbrev pub generated_name : ℕ → List ℕ
generated_name q = if nat_lt q 28 then 70 ∷ two_digits (q + 1) else 65 ∷ two_digits (q - 27)

-- 28 positions in the fore hold, with an influence of -400 ticks for a kilogram, and 36 in the aft hold, with one of 400; each
-- accepts AKE containers of at most 1,600 kg
abbrev pub generated_position : ℕ → Position
generated_position q = record {
  name = generated_name q;
  compartment = if nat_lt q 28 then 1 else 4;
  influence = if nat_lt q 28 then negsuc 399 else pos 400;
  bulk = false;
  fits = record { kind = codes "AKE"; most = record { 0 = 1600 } } ∷ [];
}

unfoldable pub generated_positions : List Position
generated_positions = map generated_position (range_with_len 0 64)

-- there are no other limits
abbrev pub generated_hold : Layout
generated_hold = layout_of generated_positions [] [] []

-- container k has the serial 10000 + k
abbrev pub generated_id : ℕ → List ℕ
generated_id k = codes "AKE100" ++ two_digits k ++ codes "XX"

abbrev pub generated_mass : ℕ → ℕ → ℕ
generated_mass number k = 600 + (k * k * (number % 997) + 37 * k) % 900

abbrev pub generated_item : ℕ → ℕ → Item
generated_item number k = record { id = generated_id k; mass = record { 0 = generated_mass number k } }

-- the containers 1 to 48
unfoldable pub generated_items : ℕ → List Item
generated_items number = map (generated_item number) (range_with_len 1 48)

-- base 50, a window of 1000 index units either way, and an ideal band from 44 to 56
abbrev pub generated_problem : ℕ → Problem
generated_problem number = record {
  hold = generated_hold;
  items = generated_items number;
  loose = [];
  base = pos 5000000;
  low = negsuc 99999999;
  high = pos 100000000;
  ideal_low = pos 4400000;
  ideal_high = pos 5600000;
}
