-- where a text is split: at the end of a line, and between words
use Rattle.std.specs.Prelude.{◌≡◌, ℕ, ◌==◌, false, List, [], ◌∷◌, All}

-- the byte does not occur in the text
abbrev pub Avoids : ℕ → List ℕ → Type 0
Avoids mark text = All (λ b. (b == mark) ≡ false) text

-- the text is empty, or begins with the byte
abbrev pub IsCutAt : ℕ → List ℕ → Type 0
IsCutAt mark [] = Unit {0}
IsCutAt mark (b ∷ text) = b ≡ mark
