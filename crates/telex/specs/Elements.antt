-- The elements of a line, each with the separator before it.
use Rattle.std.specs.Prelude.{◌≡◌, ℕ, true, false, List, [], ◌∷◌, ◌++◌, map, All}
use Rattle.std.specs.List.{flat_map}
use Rattle.telex.specs.Parts.{PlacedPart, dot, slash, is_separator}
use Rattle.telex.specs.declared.reading.Part.{Part}

-- an element: the separator before it, 0 for the first of a line, and its bytes
abbrev pub Element : Type 0
Element = ℕ × List ℕ

-- the first element of a line, one after a dot, and one after a slash
abbrev pub first : List ℕ → Element
first text = (0, text)

abbrev pub dotted : List ℕ → Element
dotted text = (dot, text)

abbrev pub slashed : List ℕ → Element
slashed text = (slash, text)

-- the line of these elements
abbrev pub line_text : List Element → List ℕ
line_text [] = []
line_text (one ∷ others) = one.1 ++ flat_map (λ (e : Element). e.0 ∷ e.1) others

-- what parts say, wherever they stand
abbrev pub said : List Part → List Element
said parts = map (λ (part : Part). (part.before, part.text.now)) parts

-- the same of parts as values
abbrev pub elements_of : List PlacedPart → List Element
elements_of parts = map (λ (part : PlacedPart). (part.before, part.text)) parts

-- no byte separates elements
abbrev pub IsUndivided : List ℕ → Type 0
IsUndivided text = All (λ b. is_separator b ≡ false) text

-- the element follows a separator and contains none
abbrev pub IsMarked : Element → Type 0
IsMarked e = (is_separator e.0 ≡ true) × IsUndivided e.1

-- these are elements of one line: a first one, and others that follow a separator each
abbrev pub AreElements : List Element → Type 0
AreElements [] = ⊥
AreElements (one ∷ others) = (one.0 ≡ 0) × IsUndivided one.1 × All IsMarked others
