-- the numbers below another, one more at a time
use Rattle.std.proofs.Common.{◌≡◌, ℕ, zero, suc, ◌+◌, [], ◌∷◌, ◌++◌, ap, ◌∙◌, arith, zero-add}
use Rattle.std.specs.List.{range_with_len}

range-suc : (a n : ℕ) → range_with_len a (suc n) ≡ range_with_len a n ++ (a + n) ∷ []
range-suc a zero = ap (λ x. x ∷ []) (omega arith)
range-suc a (suc n) =
    let next : (a + 1) + n ≡ a + suc n = omega arith in
    ap (λ xs. a ∷ xs) (range-suc (a + 1) n ∙ ap (λ x. range_with_len (a + 1) n ++ x ∷ []) next)

-- the numbers below n + 1 are those below n, and n
pub range-more : (n : ℕ) → range_with_len 0 (n + 1) ≡ range_with_len 0 n ++ n ∷ []
range-more n =
    let next : n + 1 ≡ suc n = omega arith in
    ap (range_with_len 0) next ∙ range-suc 0 n ∙ ap (λ x. range_with_len 0 n ++ x ∷ []) (zero-add n)
