-- lines after lines
use Rattle.std.proofs.Common.{◌≡◌, ℕ, ◌+◌, ◌<◌, suc, List, [], ◌∷◌, ◌++◌, length, map, take, get_or, slice_index_or, refl, add-zero, ap, sym, ◌∙◌, arith}
use Rattle.std.proofs.lemmas.List.{append_assoc, take_more, map-append, length-take, get_or_default}
use Rattle.std.specs.List.{enumerate_from}
use Rattle.text_lines.specs.Lines.{text_of}
use Rattle.text_lines.proofs.SectionLemmas.{text_of-append}

pub lines_of_2 : (old : List ℕ) (a b : List (List ℕ)) (n1 n2 : List ℕ) → n1 ≡ old ++ text_of a → n2 ≡ n1 ++ text_of b → n2 ≡ old ++ text_of (a ++ b)
lines_of_2 old a b n1 n2 e1 e2 = e2 ∙ rw e1 (simp (text_of-append, append_assoc))

pub lines_of_3 : (old : List ℕ) (a b c : List (List ℕ)) (n1 n2 n3 : List ℕ) → n1 ≡ old ++ text_of a → n2 ≡ n1 ++ text_of b → n3 ≡ n2 ++ text_of c → n3 ≡ old ++ text_of (a ++ b ++ c)
lines_of_3 old a b c n1 n2 n3 e1 e2 e3 = e3 ∙ rw (e2, e1) (simp (text_of-append, append_assoc))

pub lines_of_5 : (old : List ℕ) (a b c d e : List (List ℕ)) (n1 n2 n3 n4 n5 : List ℕ) → n1 ≡ old ++ text_of a → n2 ≡ n1 ++ text_of b → n3 ≡ n2 ++ text_of c → n4 ≡ n3 ++ text_of d → n5 ≡ n4 ++ text_of e
    → n5 ≡ old ++ text_of (a ++ b ++ c ++ d ++ e)
lines_of_5 old a b c d e n1 n2 n3 n4 n5 e1 e2 e3 e4 e5 = e5 ∙ rw (e4, e3, e2, e1) (simp (text_of-append, append_assoc))

pub lines_of_7 : (old : List ℕ) (a b c d e f g : List (List ℕ)) (n1 n2 n3 n4 n5 n6 n7 : List ℕ) → n1 ≡ old ++ text_of a → n2 ≡ n1 ++ text_of b → n3 ≡ n2 ++ text_of c → n4 ≡ n3 ++ text_of d → n5 ≡ n4 ++ text_of e → n6 ≡ n5 ++ text_of f → n7 ≡ n6 ++ text_of g
    → n7 ≡ old ++ text_of (a ++ b ++ c ++ d ++ e ++ f ++ g)
lines_of_7 old a b c d e f g n1 n2 n3 n4 n5 n6 n7 e1 e2 e3 e4 e5 e6 e7 = e7 ∙ rw (e6, e5, e4, e3, e2, e1) (simp (text_of-append, append_assoc))

-- one more entry with its number
numbered-more : {X : Type 0} (n : ℕ) (xs : List X) (x : X) → enumerate_from n (xs ++ x ∷ []) ≡ enumerate_from n xs ++ (n + length xs, x) ∷ []
numbered-more n [] x = rw add-zero refl
numbered-more n (y ∷ xs) x =
    let at : n + 1 + length xs ≡ n + suc (length xs) = omega arith in
    ap (λ zs. (n, y) ∷ zs) (numbered-more (n + 1) xs x ∙ ap (λ k. enumerate_from (n + 1) xs ++ (k, x) ∷ []) at)

-- a text that had the lines of the entries before this one, numbered from 1, and then grew by its line
pub numbered_grow : {X : Type 0} (line : ℕ × X → List ℕ) (xs : List X) (i : ℕ) (x : X) (start old new : List ℕ) → i < length xs → x ≡ get_or xs i x
    → old ≡ start ++ text_of (map line (enumerate_from 1 (take i xs))) → new ≡ old ++ text_of (line (i + 1, x) ∷ [])
    → new ≡ start ++ text_of (map line (enumerate_from 1 (take (i + 1) xs)))
numbered_grow line xs i x start old new within here was grew =
    let counted : 1 + length (take i xs) ≡ i + 1 = omega (arith, length-take i xs) in
    let longer : take (i + 1) xs ≡ take i xs ++ x ∷ [] = take_more xs i x within ∙ ap (λ y. take i xs ++ y ∷ []) (sym here) in
    let lines : map line (enumerate_from 1 (take (i + 1) xs)) ≡ map line (enumerate_from 1 (take i xs)) ++ line (i + 1, x) ∷ [] =
    ap (λ ys. map line (enumerate_from 1 ys)) longer
    ∙ ap (map line) (numbered-more 1 (take i xs) x ∙ ap (λ k. enumerate_from 1 (take i xs) ++ (k, x) ∷ []) counted)
    ∙ map-append line (enumerate_from 1 (take i xs)) ((i + 1, x) ∷ []) in
    lines_of_2 start (map line (enumerate_from 1 (take i xs))) (line (i + 1, x) ∷ []) old new was grew ∙ ap (λ ls. start ++ text_of ls) (sym lines)

-- the same where the entry is read at its place
pub numbered_grow_at : {X : Type 0} (line : ℕ × X → List ℕ) (xs : List X) (i : ℕ) (d : X) (start old new : List ℕ) → i < length xs
    → old ≡ start ++ text_of (map line (enumerate_from 1 (take i xs))) → new ≡ old ++ text_of (line (i + 1, slice_index_or xs i d) ∷ [])
    → new ≡ start ++ text_of (map line (enumerate_from 1 (take (i + 1) xs)))
numbered_grow_at line xs i d start old new within was grew = numbered_grow line xs i (slice_index_or xs i d) start old new within (get_or_default xs i d (slice_index_or xs i d) within) was grew
