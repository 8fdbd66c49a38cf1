-- where a certificate begins in a text: at the first line that is its start
use Rattle.std.specs.Prelude.{◌≡◌, ◌≢◌, ℕ, List, ◌∷◌, ◌++◌, All}
use Rattle.text_lines.specs.Cuts.{Avoids}
use Rattle.text_lines.specs.Lines.{text_of}

module _ (start : List ℕ) where
  -- a line that may stand before the start
  pub record IsEarlier (line : List ℕ) : Type 0 where
    pub whole : Avoids 10 line
    pub other : line ≢ start

  -- the first line of the text that is the start stands between these lines and this rest
  pub record StartsAfter (before : List (List ℕ)) (text rest : List ℕ) : Type 0 where
    pub earlier : All IsEarlier before
    pub is : text ≡ text_of before ++ (start ++ 10 ∷ rest)

  -- the text states this: its lines are the last ones of the text, behind the first line that is the start
  pub record StatesAfter {V : Type 0} (IsSpelled : V → Type 0) (lines_of : V → List (List ℕ)) (text : List ℕ) (said : V) : Type 0 where
    pub before : List (List ℕ)
    pub starts : StartsAfter before text (text_of (lines_of said))
    pub spelled : IsSpelled said

  -- no line of the text is the start; a last piece without an LF is no line
  pub record HasNoStart (text : List ℕ) : Type 0 where
    pub lines : List (List ℕ)
    pub rest : List ℕ
    pub earlier : All IsEarlier lines
    pub end : Avoids 10 rest
    pub is : text ≡ text_of lines ++ rest
