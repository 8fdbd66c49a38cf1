-- What a read does to the bytes that an input still has, unless they are hidden.
use Rattle.std.specs.Prelude.{◌≡◌, ℕ, List, ◌++◌, Option, None, Some, MatchOption}

-- these bytes were moved out of the front of the input; a hidden input stays hidden
abbrev pub Moves : Option (List ℕ) → Option (List ℕ) → List ℕ → Type 0
Moves old new bytes = MatchOption old (new ≡ None) (λ left. (rest : List ℕ) × (left ≡ bytes ++ rest) × (new ≡ Some rest))
