-- tables that are filled one entry after another
use Rattle.std.proofs.Common.{◌≡◌, ⊎_elim, ℕ, ◌+◌, ◌<◌, List, [], ◌∷◌, ◌++◌, length, get_or, refl, sym, subst, ◌∙◌, arith}
use Rattle.std.proofs.Math.Nat.{eq-or-lt_of_le}
use Rattle.std.proofs.lemmas.List.{get_or_append_left}

-- what holds of each entry, by its place, holds with one entry more
pub each-push : {X : Type 0} (P : ℕ → X → Type 0) (xs : List X) (n : ℕ) (x : X) → length xs ≡ n → ((k : ℕ) (d : X) → k < n → P k (get_or xs k d)) → P n x
    → (k : ℕ) (d : X) → k < n + 1 → P k (get_or (xs ++ x ∷ []) k d)
each-push P xs n x counted each here k d within = ⊎_elim
    (λ (same : k ≡ n).
    let there : get_or (xs ++ x ∷ []) k d ≡ x = last xs x k d (same ∙ sym counted) in
    subst (P k) (sym there) (subst (λ j. P j x) (sym same) here))
    (λ (less : k < n). subst (P k) (sym (get_or_append_left xs (x ∷ []) d k (omega arith))) (each k d less))
    (eq-or-lt_of_le (omega arith))
  where
    last : {X : Type 0} (xs : List X) (x : X) (k : ℕ) (d : X) → k ≡ length xs → get_or (xs ++ x ∷ []) k d ≡ x
    last [] x k d is = rw is refl
    last (y ∷ xs) x k d is = rw is (last xs x (length xs) d refl)
