-- a text is split at one point only
use Rattle.std.proofs.Common.{◌≡◌, ℕ, ◌-◌, ◌+◌, false, true, eqb, List, [], ◌∷◌, ◌++◌, length, take, drop, refl, sym, ◌∙◌, arith, Option, MatchOption, ◌≢◌, eq-eqb}
use denote.Ref.{Bor}
use Rattle.std.specs.Cmp.Lexicographic.{pointwise}
use Rattle.std.proofs.lemmas.Bool.{false≢true}
use Rattle.std.proofs.lemmas.Bool.Decides.{Decides-eqb}
use Rattle.std.proofs.lemmas.List.{take_all}
use Rattle.std.proofs.lemmas.List.Elements.{All-head, All-tail}
use Rattle.std.proofs.lemmas.Slice.Eq.{strip_prefix_is}
use Rattle.text_lines.specs.Cuts.{Avoids, IsCutAt}

-- a byte that does not occur in a text is not the first one of it
not_first : (mark b : ℕ) (text : List ℕ) → Avoids mark (b ∷ text) → b ≢ mark
not_first mark b text avoids e = false≢true (sym (All-head (λ x. eqb x mark ≡ false) b text avoids) ∙ eq-eqb b mark e)

pub cut_once : (mark : ℕ) (front rest other rest' : List ℕ) → Avoids mark front → Avoids mark other → IsCutAt mark rest → IsCutAt mark rest' → front ++ rest ≡ other ++ rest' → (front ≡ other) × (rest ≡ rest')
cut_once mark [] rest [] rest' p q cut cut' e = (refl, e)
cut_once mark [] [] (b ∷ other) rest' p q cut cut' e = absurd (cc)
cut_once mark [] (x ∷ rest) (b ∷ other) rest' p q cut cut' e =
    let same : x ≡ b = cc in absurd (not_first mark b other q (sym same ∙ cut))
cut_once mark (a ∷ front) rest [] [] p q cut cut' e = absurd (cc)
cut_once mark (a ∷ front) rest [] (x ∷ rest') p q cut cut' e =
    let same : x ≡ a = cc in absurd (not_first mark a front p (sym same ∙ cut'))
cut_once mark (a ∷ front) rest (b ∷ other) rest' p q cut cut' e =
    let tails : front ++ rest ≡ other ++ rest' = cc in
    let again = cut_once mark front rest other rest' (All-tail (λ x. eqb x mark ≡ false) a front p) (All-tail (λ x. eqb x mark ≡ false) b other q) cut cut' tails in
    (let first : front ≡ other = again.0 in cc, again.1)

-- where the cut is at the mark, the texts after it are equal too
pub split_once_again : (mark : ℕ) (front rest other rest' : List ℕ) → Avoids mark front → Avoids mark other → front ++ mark ∷ rest ≡ other ++ mark ∷ rest' → (front ≡ other) × (rest ≡ rest')
split_once_again mark front rest other rest' p q e =
    let same = cut_once mark front (mark ∷ rest) other (mark ∷ rest') p q refl refl e in
    (same.0, let tails : mark ∷ rest ≡ mark ∷ rest' = same.1 in cc)

-- a text cut at the mark has a mark
pub cut_at_mark : (mark : ℕ) (text front rest other rest' : List ℕ) → text ≡ front ++ rest → Avoids mark front → IsCutAt mark rest → Avoids mark other → text ≡ other ++ mark ∷ rest' → (front ≡ other) × (rest ≡ mark ∷ rest')
cut_at_mark mark text front rest other rest' whole p cut q e = cut_once mark front rest other (mark ∷ rest') p q cut refl (sym whole ∙ e)

pub after_first : (mark : ℕ) (rest rest' : List ℕ) → rest ≡ mark ∷ rest' → take (length rest - 1) (drop 1 rest) ≡ rest'
after_first mark rest rest' e = rw e (take_all (length (mark ∷ rest') - 1) rest' (omega arith))

pub after_prefix_is : (text prefix : List ℕ) (r : Option (Bor (List ℕ))) → MatchOption r (pointwise eqb (take (length prefix) text) prefix ≡ false) (λ x. (pointwise eqb (take (length prefix) text) prefix ≡ true) × (x.now ≡ drop (length prefix) text) × (length x.now + length prefix ≡ length text)) → MatchOption r ((rest : List ℕ) → text ≢ prefix ++ rest) (λ x. text ≡ prefix ++ x.now)
after_prefix_is text prefix r h = strip_prefix_is Decides-eqb text prefix r h

-- a text with the mark in it does not avoid the mark
pub has_mark : (mark : ℕ) (front rest : List ℕ) → Avoids mark (front ++ mark ∷ rest) → ⊥
has_mark mark [] rest avoids = not_first mark mark rest avoids refl
has_mark mark (b ∷ front) rest avoids = has_mark mark front rest (All-tail (λ x. eqb x mark ≡ false) b (front ++ mark ∷ rest) avoids)
