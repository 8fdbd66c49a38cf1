-- The digits so far spell the length.
use Rattle.std.proofs.Common.{◌≡◌, ◌<◌, ◌^◌, ℕ, List, take, true}
use Rattle.std.specs.List.{list_all}
use Rattle.std.specs.Char.{is_ascii_digit}
use Rattle.std.specs.Str.Parse.{digits_value}
use Rattle.http_wire.proofs.fields.read_length.Given as goal

pub record Spelled (text : List ℕ) (at length : ℕ) : Type 0 where
  pub digits : list_all is_ascii_digit (take at text) ≡ true
  pub value : length ≡ digits_value 10 (take at text)
  pub below : length < 10 ^ at

abbrev pub invariant-loop-byte : goal.invariant-loop-byte
invariant-loop-byte l = Spelled l.text l.byte-index l.length
