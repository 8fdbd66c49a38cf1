-- why a text does not go on with lines of a kind
use Rattle.std.specs.Prelude.{◌≡◌, ℕ, ◌+◌, List, [], ◌∷◌, ◌++◌, length}
use Rattle.text_lines.specs.Cuts.{Avoids}
use Rattle.text_lines.specs.Lines.{text_of}
use Rattle.text_lines.specs.declared.fault.LineFault.{LineFault}
use Rattle.text_lines.specs.declared.fault.LineFault.TheVariants.{Line, NoEnd, NoMemory}

-- there is this line alone
abbrev pub IsOnly : List ℕ → List (List ℕ) → Type 0
IsOnly word lines = lines ≡ word ∷ []

-- lines that go on with these make lines of the kind
pub record Begins (IsKind : List (List ℕ) → Type 0) (done : List (List ℕ)) : Type 0 where
  pub more : List (List ℕ)
  pub kind : IsKind (done ++ more)

-- why a text, whose first line has this number, is not made of lines of the kind
pub data Fails (IsKind : List (List ℕ) → Type 0) (text : List ℕ) (number : ℕ) : LineFault → Type 0 where
  -- the lines before this one may begin such lines, and with this one they may not
  wrong_line : (done : List (List ℕ)) (line after : List ℕ) → text ≡ text_of done ++ (line ++ 10 ∷ after) → Avoids 10 line
      → Begins IsKind done → (Begins IsKind (done ++ line ∷ []) → ⊥) → Fails IsKind text number (Line (length done + number))
  -- there are bytes after the last line
  more_bytes : (done : List (List ℕ)) (byte : ℕ) (after : List ℕ) → text ≡ text_of done ++ byte ∷ after
      → IsKind done → Fails IsKind text number (Line (length done + number))
  -- the text stops before the last line
  early_end : (done : List (List ℕ)) (rest : List ℕ) → text ≡ text_of done ++ rest → Avoids 10 rest
      → Begins IsKind done → (IsKind done → ⊥) → Fails IsKind text number NoEnd
  -- running out of memory has no cause in the text
  no_memory : Fails IsKind text number NoMemory
