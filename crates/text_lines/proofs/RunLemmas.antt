-- a run of words is read from the front in one way only
use Rattle.std.proofs.Common.{◌≡◌, ℕ, ◌≤◌, ◌++◌, ◌∷◌, List, [], length, refl, sym, ◌∙◌, ap, subst, arith, All}
use Rattle.std.proofs.lemmas.List.{append-nil, append_assoc, length-append}
use Rattle.std.proofs.lemmas.List.Elements.{All-head, All-tail}
use Rattle.text_lines.specs.WordRuns.{run_text}
use Rattle.text_lines.specs.Cuts.{IsCutAt}

-- texts that begin with a space, and that are read from the front in one way only
pub record AreRead {X : Type 0} (text : X → List ℕ) (IsRight : X → Type 0) : Type 0 where
  pub some : (x : X) → 1 ≤ length (text x)
  pub begins : (x : X) (rest : List ℕ) → IsCutAt 32 (text x ++ rest)
  pub once : (x y : X) (rest rest' : List ℕ) → IsRight x → IsRight y → IsCutAt 32 rest → IsCutAt 32 rest' → text x ++ rest ≡ text y ++ rest' → (x ≡ y) × (rest ≡ rest')

-- one more at the end
pub run_text-push : {X : Type 0} (text : X → List ℕ) (xs : List X) (x : X) (rest : List ℕ) → run_text text (xs ++ x ∷ []) ++ rest ≡ run_text text xs ++ (text x ++ rest)
run_text-push text [] x rest = ap (λ t. t ++ rest) (append-nil (text x))
run_text-push text (y ∷ xs) x rest = append_assoc (text y) (run_text text (xs ++ x ∷ [])) rest ∙ ap (λ t. text y ++ t) (run_text-push text xs x rest) ∙ sym (append_assoc (text y) (run_text text xs) (text x ++ rest))

pub run_text-cut : {X : Type 0} (text : X → List ℕ) (IsRight : X → Type 0) → AreRead text IsRight → (xs : List X) (rest : List ℕ) → IsCutAt 32 rest → IsCutAt 32 (run_text text xs ++ rest)
run_text-cut text P words [] rest cut = cut
run_text-cut text P words (x ∷ xs) rest cut =
    let Cut : List ℕ → Type 0 = λ t. IsCutAt 32 t in subst Cut (sym (append_assoc (text x) (run_text text xs) rest)) (words.begins x (run_text text xs ++ rest))

pub run_text-begins : {X : Type 0} (text : X → List ℕ) (IsRight : X → Type 0) → AreRead text IsRight → (xs : List X) → IsCutAt 32 (run_text text xs)
run_text-begins text P words [] = tt
run_text-begins text P words (x ∷ xs) = words.begins x (run_text text xs)

-- what was read is a prefix of each list that the text spells
pub run_again : {X : Type 0} (text : X → List ℕ) (IsRight : X → Type 0) → AreRead text IsRight → (done xs : List X) (rest : List ℕ) → All IsRight done → All IsRight xs → IsCutAt 32 rest → run_text text done ++ rest ≡ run_text text xs → (more : List X) × (xs ≡ done ++ more) × (rest ≡ run_text text more) × All IsRight more
run_again text P words [] xs rest p q cut e = (xs, refl, e, q)
run_again text P words (x ∷ done) [] rest p q cut e = absurd (omega (arith, words.some x, ap length e, length-append (text x) (run_text text done), length-append (text x ++ run_text text done) rest))
run_again text P words (x ∷ done) (y ∷ xs) rest p q cut e =
    let whole : text x ++ (run_text text done ++ rest) ≡ text y ++ run_text text xs = sym (append_assoc (text x) (run_text text done) rest) ∙ e in
    let one = words.once x y (run_text text done ++ rest) (run_text text xs) (All-head P x done p) (All-head P y xs q) (run_text-cut text P words done rest cut) (run_text-begins text P words xs) whole in
    let again = run_again text P words done xs rest (All-tail P x done p) (All-tail P y xs q) cut one.1 in
    (again.0, (let first : x ≡ y = one.0 in let others : xs ≡ done ++ again.0 = again.1 in cc), again.2, again.3)

-- where words are left and no entry is first among them, the text spells no list
pub no_more : {X : Type 0} (text : X → List ℕ) (IsRight : X → Type 0) → AreRead text IsRight → (more : List X) (rest : List ℕ) → All IsRight more → rest ≡ run_text text more → (length rest ≡ 0 → ⊥) → ((x : X) (r : List ℕ) → IsRight x → IsCutAt 32 r → rest ≡ text x ++ r → ⊥) → ⊥
no_more text P words [] rest p e some none = some (ap length e)
no_more text P words (x ∷ more) rest p e some none = none x (run_text text more) (All-head P x more p) (run_text-begins text P words more) e

-- where no words are left, what was read is the whole list
pub all_read : {X : Type 0} (text : X → List ℕ) (IsRight : X → Type 0) → AreRead text IsRight → (done xs more : List X) (rest : List ℕ) → xs ≡ done ++ more → rest ≡ run_text text more → length rest ≡ 0 → done ≡ xs
all_read text P words done xs [] rest e t none = sym (e ∙ append-nil done)
all_read text P words done xs (x ∷ more) rest e t none = absurd (omega (arith, words.some x, ap length t, length-append (text x) (run_text text more)))

-- two lists with one text are the same
pub run_once : {X : Type 0} (text : X → List ℕ) (IsRight : X → Type 0) → AreRead text IsRight → (xs ys : List X) → All IsRight xs → All IsRight ys → run_text text xs ≡ run_text text ys → xs ≡ ys
run_once text P words xs ys p q e =
    let again = run_again text P words xs ys [] p q tt (append-nil (run_text text xs) ∙ e) in
    all_read text P words xs ys again.0 [] again.1 again.2 refl
