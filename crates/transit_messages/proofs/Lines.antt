-- The lines of the onward message, and what is known of each.
use Rattle.std.proofs.Common.{◌≡◌, ℕ, List, [], ◌∷◌, map, refl, ap}
use Rattle.telex.specs.Elements.{line_text}
use Rattle.ldm_cpm.specs.Messages.{Placing, place_elements, place_lines}

-- the line of what is said
abbrev pub line_for : {X : Type 0} → (X → Placing) → X → List ℕ
line_for says x = line_text (place_elements (says x))

pub lines-of : {X : Type 0} (says : X → Placing) (xs : List X) → map (line_for says) xs ≡ place_lines (map says xs)
lines-of says [] = refl
lines-of says (x ∷ xs) = ap (λ ls. line_for says x ∷ ls) (lines-of says xs)
