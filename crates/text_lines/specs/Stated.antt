-- texts that state one thing
use Rattle.std.specs.Prelude.{◌≡◌, ℕ, List}

-- these are all lines of something of the kind
pub record AreLinesOf {V : Type 0} (IsSpelled : V → Type 0) (lines_of : V → List (List ℕ)) (lines : List (List ℕ)) : Type 0 where
  pub said : V
  pub spelled : IsSpelled said
  pub are : lines ≡ lines_of said
