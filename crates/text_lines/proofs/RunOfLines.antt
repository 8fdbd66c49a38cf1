-- a run of lines of one kind is read in one way only
use Rattle.std.proofs.Common.{◌≡◌, ℕ, ◌++◌, ◌∷◌, List, [], map, refl, sym, All}
use Rattle.std.proofs.lemmas.List.Elements.{All-head, All-tail}

-- no line of the kind comes next
abbrev pub Stops : {X : Type 0} → (X → List ℕ) → (X → Type 0) → List (List ℕ) → Type 0
Stops {X} line IsRight lines = (x : X) (more : List (List ℕ)) → IsRight x → lines ≡ line x ∷ more → ⊥

pub section_once : {X : Type 0} (line : X → List ℕ) (IsRight : X → Type 0) → ((x y : X) → IsRight x → IsRight y → line x ≡ line y → x ≡ y) → (xs ys : List X) (lines other : List (List ℕ)) → All IsRight xs → All IsRight ys → Stops line IsRight lines → Stops line IsRight other → map line xs ++ lines ≡ map line ys ++ other → (xs ≡ ys) × (lines ≡ other)
section_once line P once [] [] lines other p q stop stop' e = (refl, e)
section_once line P once [] (y ∷ ys) lines other p q stop stop' e = absurd (stop y (map line ys ++ other) (All-head P y ys q) e)
section_once line P once (x ∷ xs) [] lines other p q stop stop' e = absurd (stop' x (map line xs ++ lines) (All-head P x xs p) (sym e))
section_once line P once (x ∷ xs) (y ∷ ys) lines other p q stop stop' e =
    let first : line x ≡ line y = cc in
    let tails : map line xs ++ lines ≡ map line ys ++ other = cc in
    let same = once x y (All-head P x xs p) (All-head P y ys q) first in
    let again = section_once line P once xs ys lines other (All-tail P x xs p) (All-tail P y ys q) stop stop' tails in
    (λ i. same i ∷ again.0 i, again.1)
