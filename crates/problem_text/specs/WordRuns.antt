-- the kinds of a position at the end of its line, each word after a space
use Rattle.std.specs.Prelude.{ℕ, List, ◌∷◌, ◌++◌}
use Rattle.mass_units.specs.Spelling.{number_text, IsNumber}
use Rattle.hold_parts.specs.declared.lists.Fit.{Fit}
use Rattle.hold_parts.specs.Spellings.{IsKind}

-- a kind that a position accepts, with the greatest mass of one
abbrev pub fit_text : Fit → List ℕ
fit_text fit = 32 ∷ (fit.kind ++ 32 ∷ number_text fit.most.0)

-- both words in their spelling
pub record IsSpelledFit (fit : Fit) : Type 0 where
  pub kind : IsKind fit.kind
  pub mass : IsNumber fit.most.0
