-- the positions of a hold, one after another
use Rattle.std.proofs.Common.{◌≡◌, ℕ, ◌+◌, ◌<◌, suc, List, [], ◌∷◌, ◌++◌, length, take, get_or, map, refl, add-zero, ap, sym, ◌∙◌, arith}
use Rattle.std.proofs.lemmas.List.{take_more, map-append, length-take}
use Rattle.std.specs.List.{enumerate_from}

numbered-more : {X : Type 0} (n : ℕ) (xs : List X) (x : X) → enumerate_from n (xs ++ x ∷ []) ≡ enumerate_from n xs ++ (n + length xs, x) ∷ []
numbered-more n [] x = rw add-zero refl
numbered-more n (y ∷ xs) x =
    let at : n + 1 + length xs ≡ n + suc (length xs) = omega arith in
    ap (λ zs. (n, y) ∷ zs) (numbered-more (n + 1) xs x ∙ ap (λ k. enumerate_from (n + 1) xs ++ (k, x) ∷ []) at)

-- what a function tells of the first elements with their numbers, and of one more
pub told-more : {X Y : Type 0} (f : ℕ × X → Y) (xs : List X) (i : ℕ) (x : X) (told : List Y) → i < length xs → x ≡ get_or xs i x → told ≡ map f (enumerate_from 0 (take i xs))
    → told ++ f (i, x) ∷ [] ≡ map f (enumerate_from 0 (take (i + 1) xs))
told-more f xs i x told within here is =
    let counted : 0 + length (take i xs) ≡ i = omega (arith, length-take i xs) in
    let longer : take (i + 1) xs ≡ take i xs ++ x ∷ [] = take_more xs i x within ∙ ap (λ y. take i xs ++ y ∷ []) (sym here) in
    sym (
    ap (λ ys. map f (enumerate_from 0 ys)) longer
    ∙ ap (map f) (numbered-more 0 (take i xs) x ∙ ap (λ k. enumerate_from 0 (take i xs) ++ (k, x) ∷ []) counted)
    ∙ map-append f (enumerate_from 0 (take i xs)) ((i, x) ∷ [])
    ∙ ap (λ ys. ys ++ f (i, x) ∷ []) (sym is))
