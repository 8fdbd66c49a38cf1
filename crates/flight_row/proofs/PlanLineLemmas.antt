-- the line of a plan, name by name
use Rattle.std.proofs.Common.{◌≡◌, ℕ, ◌<◌, ◌≤◌, ◌∷◌, ◌++◌, List, [], length, refl, sym, ◌∙◌, ap, subst, arith, All, codes}
use Rattle.std.proofs.lemmas.List.{append-nil}
use Rattle.std.proofs.lemmas.List.Elements.{All-head, All-tail}
use Rattle.hold_parts.specs.Spellings.{IsName}
use Rattle.text_lines.specs.Lines.{line_of}
use Rattle.flight_row.specs.Words.{words_in}
use Rattle.flight_row.specs.RowText.{plan_line}
use Rattle.flight_row.specs.Spelled.{IsSpelledPlan}
use Rattle.flight_row.proofs.WordLemmas.{line_of-words}
use Rattle.flight_row.proofs.LineLemmas.{words_are, plan_words}

abbrev Words : Type 0
Words = List (List ℕ)

-- the line has the keyword, these names, and then the words that are left
pub record AreNamesSoFar (line : List ℕ) (names words : Words) : Type 0 where
  pub read : words_in line ≡ codes "plan" ∷ (names ++ words)
  pub named : All IsName names
  pub few : length names ≤ 60

pub all_names : (line : List ℕ) (names words : Words) → AreNamesSoFar line names words → words ≡ [] → IsSpelledPlan names × (line ≡ plan_line names)
all_names line names words so none =
    let is : words_in line ≡ codes "plan" ∷ names = so.read ∙ ap (λ (ws : Words). codes "plan" ∷ (names ++ ws)) none ∙ ap (λ (ws : Words). codes "plan" ∷ ws) (append-nil names) in
    (record { few = so.few; each = so.named }, sym (line_of-words line) ∙ ap line_of is)

-- what is left of a list that begins with these
behind : (names others words : Words) → names ++ words ≡ others → All IsName others → (w : List ℕ) (ws : Words) → words ≡ w ∷ ws → IsName w × (length names < length others)
behind [] others words e named w ws is =
    let are : others ≡ w ∷ ws = sym e ∙ is in
    let long = ap length are in
    (All-head IsName w ws (subst (All IsName) are named), omega (arith, long))
behind (n ∷ names) [] words e named w ws is = absurd (cc (e))
behind (n ∷ names) (o ∷ others) words e named w ws is =
    let tails : names ++ words ≡ others = cc (e) in
    let again = behind names others words tails (All-tail IsName o others named) w ws is in
    let less = again.1 in
    (again.0, omega (arith, less))

others_are : (line : List ℕ) (names words others : Words) → AreNamesSoFar line names words → IsSpelledPlan others → line ≡ plan_line others → names ++ words ≡ others
others_are line names words others so s e = let w = words_are plan_words line others s e in cc (w, so.read)

-- the next word is no name
pub wrong_name : (line : List ℕ) (names words : Words) → AreNamesSoFar line names words → (words ≡ [] → ⊥) → ((name : List ℕ) (rest : Words) → IsName name → words ≡ name ∷ rest → ⊥) → (others : Words) → IsSpelledPlan others → line ≡ plan_line others → ⊥
wrong_name line names [] so some none others s e = some refl
wrong_name line names (w ∷ ws) so some none others s e =
    let named = behind names others (w ∷ ws) (others_are line names (w ∷ ws) others so s e) s.each w ws refl in
    none w ws named.0 refl

-- there are too many
pub too_many : (line : List ℕ) (names words rest : Words) (name : List ℕ) → AreNamesSoFar line names words → 60 ≤ length names → words ≡ name ∷ rest → (others : Words) → IsSpelledPlan others → line ≡ plan_line others → ⊥
too_many line names words rest name so full is others s e =
    let more = (behind names others words (others_are line names words others so s e) s.each name rest is).1 in
    let few = s.few in
    absurd (omega arith)
