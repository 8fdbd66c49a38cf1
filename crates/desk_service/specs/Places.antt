-- entries with their places in a history
use Rattle.std.specs.Prelude.{◌≡◌, ◌+◌, ◌==◌, ℕ, List, [], ◌∷◌, ◌++◌, length, Bool, true, false}

module _ {E : Type 0} where
  -- the history has the entry at this place, behind those before it
  pub record Stands (history : List E) (place : ℕ) (before : List E) (entry : E) : Type 0 where
    pub after : List E
    pub at : history ≡ before ++ entry ∷ after
    pub long : place ≡ length before

  -- one history continues another
  pub record GoesOn (old new : List E) : Type 0 where
    pub rest : List E
    pub is : new ≡ old ++ rest

  -- the entry with its place, if it is one of those that are looked for
  abbrev pub placed_if : Bool → ℕ → E → List (ℕ × E)
  placed_if true place entry = (place, entry) ∷ []
  placed_if false place entry = []

  module _ (desk_of : E → ℕ) (desk : ℕ) where
    -- the entries of a desk with their places, in a list whose first entry has this place
    unfoldable pub placed_from : ℕ → List E → List (ℕ × E)
    placed_from place [] = []
    placed_from place (entry ∷ entries) = placed_if (desk_of entry == desk) place entry ++ placed_from (place + 1) entries

    -- the entries of a desk with their places in a history, so that the places rise
    abbrev pub placed : List E → List (ℕ × E)
    placed history = placed_from 0 history
