-- a run of lines of one kind, as a section of a task has them
use Rattle.std.specs.Prelude.{◌≡◌, ◌≢◌, ℕ, ◌+◌, List, [], ◌∷◌, ◌++◌, length, map, All}
use Rattle.text_lines.specs.Cuts.{Avoids}
use Rattle.text_lines.specs.Lines.{text_of}

-- the line states an entry of its kind, and this is what the reader keeps of it
pub record Says {X : Type 0} (line : X → List ℕ) (IsRight : X → Type 0) (keep : X → X) (text : List ℕ) (got : X) : Type 0 where
  pub said : X
  pub kept : got ≡ keep said
  pub right : IsRight said
  pub is : text ≡ line said

-- the first line of the text, if there is one, is not of this kind
abbrev pub HasNoneAhead : {X : Type 0} → (X → List ℕ) → (X → Type 0) → List ℕ → Type 0
HasNoneAhead {X} line IsRight text = (front rest : List ℕ) → text ≡ front ++ 10 ∷ rest → Avoids 10 front → (x : X) → IsRight x → front ≢ line x

-- the lines between two points of a text state entries of one kind, no line of that kind follows, and this is what
-- the reader keeps of the entries
pub record IsSection {X : Type 0} (line : X → List ℕ) (IsRight : X → Type 0) (keep : X → X) (before after : List ℕ) (number next : ℕ) (got : List X) : Type 0 where
  pub said : List X
  pub kept : got ≡ map keep said
  pub right : All IsRight said
  pub read : before ≡ text_of (map line said) ++ after
  pub stops : HasNoneAhead line IsRight after
  pub counted : next ≡ number + length said

-- the line states an entry of its kind
abbrev pub IsOfKind : {X : Type 0} → (X → List ℕ) → (X → Type 0) → List ℕ → Type 0
IsOfKind {X} line IsRight text = (x : X) × IsRight x × (text ≡ line x)

-- the lines between two points of a text state these entries of one kind, which are allowed together; the next line states no
-- entry that would be allowed with them
pub record ArePart {X : Type 0} (line : X → List ℕ) (IsRight : X → Type 0) (AreAllowed : List X → Type 0) (before after : List ℕ) (number next : ℕ) (got : List X) : Type 0 where
  pub right : All IsRight got
  pub allowed : AreAllowed got
  pub read : before ≡ text_of (map line got) ++ after
  pub counted : next ≡ number + length got
  pub stops : (x : X) (rest : List ℕ) → IsRight x → Avoids 10 (line x) → AreAllowed (got ++ x ∷ []) → after ≢ line x ++ 10 ∷ rest
