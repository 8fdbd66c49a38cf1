-- the spellings of a position's name, of a kind of container and of a container's identity
use Rattle.std.specs.Prelude.{◌≡◌, ℕ, ◌-◌, ◌≤◌, List, length, take, drop, slice_range, All}
use Rattle.base_words.specs.Letters.{IsCapital, IsDigit, IsCapitalOrDigit}

-- a position's name: 1 to 3 capitals or digits
pub record IsName (text : List ℕ) : Type 0 where
  pub some : 1 ≤ length text
  pub few : length text ≤ 3
  pub letters : All IsCapitalOrDigit text

-- a kind of container: three capitals
pub record IsKind (text : List ℕ) : Type 0 where
  pub three : length text ≡ 3
  pub letters : All IsCapital text

-- the identity of a unit load device: its kind, a serial of 4 or 5 digits, and an owner of two capitals or digits
pub record IsUldId (text : List ℕ) : Type 0 where
  pub short : 9 ≤ length text
  pub long : length text ≤ 10
  pub kind : All IsCapital (take 3 text)
  pub serial : All IsDigit (slice_range text 3 (length text - 2))
  pub owner : All IsCapitalOrDigit (drop (length text - 2) text)
