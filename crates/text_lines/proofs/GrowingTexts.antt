-- Texts that grow by one entry after another.
use Rattle.std.proofs.Common.{◌≡◌, ℕ, ◌+◌, ◌<◌, List, [], ◌∷◌, ◌++◌, length, map, take, get_or, subst, refl, ap, sym, ◌∙◌}
use Rattle.std.proofs.lemmas.List.{append-nil, append_assoc, take_more}
use Rattle.std.proofs.lemmas.List.Elements.{All-push}
use Rattle.std.specs.Prelude.{All}
use Rattle.text_lines.specs.Lines.{text_of}
use Rattle.text_lines.specs.WordRuns.{run_text}

run_push : {X : Type 0} (text : X → List ℕ) (xs : List X) (x : X) → run_text text (xs ++ x ∷ []) ≡ run_text text xs ++ text x
run_push text [] x = append-nil (text x)
run_push text (y ∷ ys) x = ap (λ t. text y ++ t) (run_push text ys x) ∙ sym (append_assoc (text y) (run_text text ys) (text x))

run_more : {X : Type 0} (text : X → List ℕ) (xs : List X) (i : ℕ) (d : X) → i < length xs
    → run_text text (take (i + 1) xs) ≡ run_text text (take i xs) ++ text (get_or xs i d)
run_more text xs i d within = ap (run_text text) (take_more xs i d within) ∙ run_push text (take i xs) (get_or xs i d)

-- a text that had the entries before this one, and then grew by it
pub run_grows_by : {X : Type 0} (text : X → List ℕ) (xs : List X) (i : ℕ) (x : X) (start old new : List ℕ) → i < length xs → x ≡ get_or xs i x
    → old ≡ start ++ run_text text (take i xs) → new ≡ old ++ text x → new ≡ start ++ run_text text (take (i + 1) xs)
run_grows_by text xs i x start old new within is was grew =
    grew ∙ (λ j. was j ++ text (is j)) ∙ append_assoc start (run_text text (take i xs)) (text (get_or xs i x))
    ∙ ap (λ t. start ++ t) (sym (run_more text xs i x within))

lines_push : {X : Type 0} (line : X → List ℕ) (xs : List X) (x : X) → text_of (map line (xs ++ x ∷ [])) ≡ text_of (map line xs) ++ (line x ++ 10 ∷ [])
lines_push line [] x = refl
lines_push line (y ∷ ys) x = ap (λ t. line y ++ 10 ∷ t) (lines_push line ys x) ∙ sym (append_assoc (line y) (10 ∷ text_of (map line ys)) (line x ++ 10 ∷ []))

lines_more : {X : Type 0} (line : X → List ℕ) (xs : List X) (i : ℕ) (d : X) → i < length xs
    → text_of (map line (take (i + 1) xs)) ≡ text_of (map line (take i xs)) ++ (line (get_or xs i d) ++ 10 ∷ [])
lines_more line xs i d within = ap (λ ys. text_of (map line ys)) (take_more xs i d within) ∙ lines_push line (take i xs) (get_or xs i d)

pub lines_grow_by : {X : Type 0} (line : X → List ℕ) (xs : List X) (i : ℕ) (x : X) (start old new : List ℕ) → i < length xs → x ≡ get_or xs i x
    → old ≡ start ++ text_of (map line (take i xs)) → new ≡ old ++ (line x ++ 10 ∷ []) → new ≡ start ++ text_of (map line (take (i + 1) xs))
lines_grow_by line xs i x start old new within is was grew =
    grew ∙ (λ j. was j ++ (line (is j) ++ 10 ∷ [])) ∙ append_assoc start (text_of (map line (take i xs))) (line (get_or xs i x) ++ 10 ∷ [])
    ∙ ap (λ t. start ++ t) (sym (lines_more line xs i x within))

-- the same of a list whose entries are all of a kind
pub lines_grow_of : {X : Type 0} (P : X → Type 0) (line : X → List ℕ) (xs : List X) (i : ℕ) (x : X) (start old new : List ℕ) → i < length xs → x ≡ get_or xs i x
    → (old ≡ start ++ text_of (map line (take i xs))) × All P (take i xs) → new ≡ old ++ (line x ++ 10 ∷ []) → P x
    → (new ≡ start ++ text_of (map line (take (i + 1) xs))) × All P (take (i + 1) xs)
lines_grow_of P line xs i x start old new within is was grew right = (
  lines_grow_by line xs i x start old new within is was.0 grew,
  subst (All P) (sym (take_more xs i x within)) (All-push P (take i xs) (get_or xs i x) was.1 (subst P is right)),
)
