-- runs of words at the end of a line, each word after a space
use Rattle.std.specs.Prelude.{ℕ, List, [], ◌∷◌, ◌++◌}
use Rattle.hold_parts.specs.declared.parts.Position.{Position}
use Rattle.hold_limits.specs.Layout.{name_at}

-- the texts of the entries, one after another
abbrev pub run_text : {X : Type 0} → (X → List ℕ) → List X → List ℕ
run_text text [] = []
run_text text (x ∷ xs) = text x ++ run_text text xs

-- the name of a position
abbrev pub name_text : List Position → ℕ → List ℕ
name_text positions q = 32 ∷ name_at positions q
