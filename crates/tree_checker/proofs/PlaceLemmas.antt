-- what stands at a place of a list that is mapped
use Rattle.std.proofs.Common.{◌≡◌, ℕ, zero, suc, ◌<◌, true, List, [], ◌∷◌, length, map, get_or, Some, sym, ap, ◌∙◌, arith}
use Rattle.std.proofs.lemmas.Bool.Decides.{nat_tests}
use Rattle.std.proofs.lemmas.Option.{slice_get-get_or, same_Some}
use Rattle.std.specs.Prelude.{nat_lt, slice_get}

pub mapped-at : {A B : Type 0} (f : A → B) (xs : List A) (i : ℕ) (x : A) → slice_get xs i ≡ Some x → slice_get (map f xs) i ≡ Some (f x)
mapped-at f [] i x is = absurd (cc)
mapped-at f (y ∷ xs) zero x is = ap (λ z. Some (f z)) (same_Some y x is)
mapped-at f (y ∷ xs) (suc i) x is = mapped-at f xs i x is

pub looked-up : {A : Type 0} (xs : List A) (i : ℕ) (x : A) → true ≡ nat_lt i (length xs) → x ≡ get_or xs i x → slice_get xs i ≡ Some x
looked-up xs i x within is = slice_get-get_or xs i x (below i (length xs) (sym within)) ∙ ap (λ z. Some z) (sym is)
  where
    below : (i n : ℕ) → nat_lt i n ≡ true → i < n
    below i n less = grind (arith, nat_tests)
